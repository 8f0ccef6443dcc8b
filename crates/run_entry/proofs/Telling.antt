-- What the text of some options tells.
use Rattle.std.proofs.Common.{◌≡◌, inl, inr, ℕ, ◌+◌, ◌<◌, ◌≤◌, ◌^◌, Bool, true, false, ◌&&◌, List, ◌∷◌, ◌++◌, length, refl, sym, ◌∙◌, ap, arith, lit≤}
use Rattle.std.specs.Prelude.{◌==◌, codes, if◌then◌else◌}
use Rattle.std.proofs.lemmas.Bool.{eqb-true, eqb-false, and_right}
use Rattle.std.proofs.lemmas.List.{length-append}
use Rattle.grammar.specs.Trees.{Query}
use Rattle.ledger_model.specs.Inputs.{Format, iisw3c, ncsa, csv, tsv, textline, textword, Separator, tab, space, byte, IsSeparator, format_word, switch_word, separator_word, rotation_word, input_text, IsInput}
use Rattle.command_words.specs.declared.formats.InputFormat.{InputFormat}
use Rattle.command_words.specs.declared.formats.InputFormat.TheVariants as I
use Rattle.command_words.specs.declared.spec.Spec.{Spec}
use Rattle.command_words.specs.Formats.{input_name}
use Rattle.command_words.specs.Separators.{IsSeparator as IsByte}
use Rattle.command_words.specs.Table.{IsInRange}
use Rattle.program_meaning.specs.Formats.{format_of, input_of, lines_in, log_format}
use Rattle.program_meaning.specs.Inputs.{format_as, separator_as, is_numbers, input_for, separator_in, front_of, lines_as, format_in}

-- the words of formats
pub named : (i : InputFormat) → input_name i ≡ format_word (format_as i)
named I.IisW3c = refl
named I.Ncsa = refl
named I.Csv = refl
named I.Tsv = refl
named I.TextLine = refl
named I.TextWord = refl

-- the front of a text, and what stands behind it
record Front (f : Format) (h : Bool) : Type 0 where
  parts : (rest : List ℕ) → codes "-i:" ++ (format_word f ++ (codes " -headerRow:" ++ (switch_word h ++ (codes " -iSeparator:" ++ rest)))) ≡ front_of f h ++ rest
  tells : (rest : List ℕ) → format_in (front_of f h ++ rest) ≡ lines_as f h (separator_in rest)
  short : length (front_of f h) ≤ 40

front : (f : Format) (h : Bool) → Front f h
unfolding format_in
front iisw3c true = record { parts = λ rest. refl; tells = λ rest. refl; short = lit≤ tt }
front iisw3c false = record { parts = λ rest. refl; tells = λ rest. refl; short = lit≤ tt }
front ncsa true = record { parts = λ rest. refl; tells = λ rest. refl; short = lit≤ tt }
front ncsa false = record { parts = λ rest. refl; tells = λ rest. refl; short = lit≤ tt }
front csv true = record { parts = λ rest. refl; tells = λ rest. refl; short = lit≤ tt }
front csv false = record { parts = λ rest. refl; tells = λ rest. refl; short = lit≤ tt }
front tsv true = record { parts = λ rest. refl; tells = λ rest. refl; short = lit≤ tt }
front tsv false = record { parts = λ rest. refl; tells = λ rest. refl; short = lit≤ tt }
front textline true = record { parts = λ rest. refl; tells = λ rest. refl; short = lit≤ tt }
front textline false = record { parts = λ rest. refl; tells = λ rest. refl; short = lit≤ tt }
front textword true = record { parts = λ rest. refl; tells = λ rest. refl; short = lit≤ tt }
front textword false = record { parts = λ rest. refl; tells = λ rest. refl; short = lit≤ tt }

-- the separator behind it
byte_told : (b : ℕ) (numbers : Bool) → separator_in (b ∷ (32 ∷ rotation_word numbers)) ≡ b
byte_told b numbers =
    let tabs : (b == 116 && false) ≡ false = and_right (b == 116) false refl in
    let spaces : (b == 115 && false) ≡ false = and_right (b == 115) false refl in
    λ i. if tabs i then 9 else if spaces i then 32 else b

separator_told : (b : ℕ) (numbers : Bool) → separator_in (separator_word (separator_as b) ++ rotation_word numbers) ≡ b
separator_told b numbers = by_tests (b == 9) (b == 32) refl refl where
  by_tests : (tabs spaces : Bool) → tabs ≡ (b == 9) → spaces ≡ (b == 32) → separator_in (separator_word (if tabs then tab else if spaces then space else byte b) ++ rotation_word numbers) ≡ b
  by_tests true spaces t s = sym (eqb-true b 9 (sym t))
  by_tests false true t s = sym (eqb-true b 32 (sym s))
  by_tests false false t s = byte_told b numbers

-- the lines of an input format
lines_so : (spec : Spec) (i : InputFormat) → lines_as (format_as i) spec.header_row spec.separator ≡ lines_in (format_of spec i)
lines_so spec I.IisW3c = refl
lines_so spec I.Ncsa = refl
lines_so spec I.Csv = refl
lines_so spec I.Tsv = refl
lines_so spec I.TextLine = refl
lines_so spec I.TextWord = refl

-- a text tells how the logs of its query are read
pub text_tells : (spec : Spec) (q : Query) → format_in (input_text (input_for spec q)) ≡ lines_in (log_format spec q)
text_tells spec q =
    let f : Format = format_as (input_of spec q) in
    let rest : List ℕ = separator_word (separator_as spec.separator) ++ rotation_word (is_numbers spec.rotation) in
    ap format_in ((front f spec.header_row).parts rest) ∙ (front f spec.header_row).tells rest ∙ ap (lines_as f spec.header_row) (separator_told spec.separator (is_numbers spec.rotation)) ∙ lines_so spec (input_of spec q)

-- it has the form of such a text

separator_fits : (b : ℕ) → IsByte b → IsSeparator (separator_as b)
separator_fits b is = by_tests (b == 9) (b == 32) refl refl where
  by_tests : (tabs spaces : Bool) → tabs ≡ (b == 9) → spaces ≡ (b == 32) → IsSeparator (if tabs then tab else if spaces then space else byte b)
  by_tests true spaces t s = tt
  by_tests false true t s = tt
  by_tests false false t s = visible is where
    visible : IsByte b → IsSeparator (byte b)
    visible (inl nine) = absurd (eqb-false b 9 (sym t) nine)
    visible (inr seen) = let no_space = eqb-false b 32 (sym s) in let low = seen.0 in record { low = grind (arith); high = seen.1; no_quote = seen.2 }

pub is_input : (spec : Spec) (q : Query) → IsInRange spec → IsInput (input_text (input_for spec q))
is_input spec q range = record { input = input_for spec q; separator = separator_fits spec.separator range.separator; is = refl }

separator_short : (s : Separator) → length (separator_word s) ≤ 6
separator_short tab = lit≤ tt
separator_short space = lit≤ tt
separator_short (byte b) = lit≤ tt

rotation_short : (numbers : Bool) → length (rotation_word numbers) ≤ 18
rotation_short true = lit≤ tt
rotation_short false = lit≤ tt

pub input_short : (spec : Spec) (q : Query) → length (input_text (input_for spec q)) < 2 ^ 32
input_short spec q =
    let f : Format = format_as (input_of spec q) in
    let s : Separator = separator_as spec.separator in
    let n : Bool = is_numbers spec.rotation in
    omega (
      arith,
      ap length ((front f spec.header_row).parts (separator_word s ++ rotation_word n)),
      length-append (front_of f spec.header_row) (separator_word s ++ rotation_word n),
      length-append (separator_word s) (rotation_word n),
      (front f spec.header_row).short,
      separator_short s,
      rotation_short n,
    )
