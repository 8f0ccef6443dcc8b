-- The words of an input text, one after another.
use Rattle.std.proofs.Common.{◌≡◌, ℕ, ◌≤◌, List, ◌++◌, length, drop, get_or, refl, sym, ◌∙◌, ap, arith, Bool, true, false, lit≤}
use Rattle.std.specs.Prelude.{codes}
use Rattle.std.proofs.lemmas.List.{append_cancel_left, length-append}
use Rattle.ledger_model.specs.Inputs.{Format, iisw3c, ncsa, csv, tsv, textline, textword, Separator, tab, space, byte, format_word, switch_word, separator_word, rotation_word, Input, input_text, IsInput}

pub format_one : (f g : Format) (r s : List ℕ) → format_word f ++ r ≡ format_word g ++ s → (f ≡ g) × (r ≡ s)
format_one iisw3c iisw3c r s e = (refl, append_cancel_left (codes "IISW3C") r s e)
format_one iisw3c ncsa r s e = absurd (omega (arith, ap (λ (t : List ℕ). get_or t 0 0) e))
format_one iisw3c csv r s e = absurd (omega (arith, ap (λ (t : List ℕ). get_or t 0 0) e))
format_one iisw3c tsv r s e = absurd (omega (arith, ap (λ (t : List ℕ). get_or t 0 0) e))
format_one iisw3c textline r s e = absurd (omega (arith, ap (λ (t : List ℕ). get_or t 0 0) e))
format_one iisw3c textword r s e = absurd (omega (arith, ap (λ (t : List ℕ). get_or t 0 0) e))
format_one ncsa iisw3c r s e = absurd (omega (arith, ap (λ (t : List ℕ). get_or t 0 0) e))
format_one ncsa ncsa r s e = (refl, append_cancel_left (codes "NCSA") r s e)
format_one ncsa csv r s e = absurd (omega (arith, ap (λ (t : List ℕ). get_or t 0 0) e))
format_one ncsa tsv r s e = absurd (omega (arith, ap (λ (t : List ℕ). get_or t 0 0) e))
format_one ncsa textline r s e = absurd (omega (arith, ap (λ (t : List ℕ). get_or t 0 0) e))
format_one ncsa textword r s e = absurd (omega (arith, ap (λ (t : List ℕ). get_or t 0 0) e))
format_one csv iisw3c r s e = absurd (omega (arith, ap (λ (t : List ℕ). get_or t 0 0) e))
format_one csv ncsa r s e = absurd (omega (arith, ap (λ (t : List ℕ). get_or t 0 0) e))
format_one csv csv r s e = (refl, append_cancel_left (codes "CSV") r s e)
format_one csv tsv r s e = absurd (omega (arith, ap (λ (t : List ℕ). get_or t 0 0) e))
format_one csv textline r s e = absurd (omega (arith, ap (λ (t : List ℕ). get_or t 0 0) e))
format_one csv textword r s e = absurd (omega (arith, ap (λ (t : List ℕ). get_or t 0 0) e))
format_one tsv iisw3c r s e = absurd (omega (arith, ap (λ (t : List ℕ). get_or t 0 0) e))
format_one tsv ncsa r s e = absurd (omega (arith, ap (λ (t : List ℕ). get_or t 0 0) e))
format_one tsv csv r s e = absurd (omega (arith, ap (λ (t : List ℕ). get_or t 0 0) e))
format_one tsv tsv r s e = (refl, append_cancel_left (codes "TSV") r s e)
format_one tsv textline r s e = absurd (omega (arith, ap (λ (t : List ℕ). get_or t 1 0) e))
format_one tsv textword r s e = absurd (omega (arith, ap (λ (t : List ℕ). get_or t 1 0) e))
format_one textline iisw3c r s e = absurd (omega (arith, ap (λ (t : List ℕ). get_or t 0 0) e))
format_one textline ncsa r s e = absurd (omega (arith, ap (λ (t : List ℕ). get_or t 0 0) e))
format_one textline csv r s e = absurd (omega (arith, ap (λ (t : List ℕ). get_or t 0 0) e))
format_one textline tsv r s e = absurd (omega (arith, ap (λ (t : List ℕ). get_or t 1 0) e))
format_one textline textline r s e = (refl, append_cancel_left (codes "TEXTLINE") r s e)
format_one textline textword r s e = absurd (omega (arith, ap (λ (t : List ℕ). get_or t 4 0) e))
format_one textword iisw3c r s e = absurd (omega (arith, ap (λ (t : List ℕ). get_or t 0 0) e))
format_one textword ncsa r s e = absurd (omega (arith, ap (λ (t : List ℕ). get_or t 0 0) e))
format_one textword csv r s e = absurd (omega (arith, ap (λ (t : List ℕ). get_or t 0 0) e))
format_one textword tsv r s e = absurd (omega (arith, ap (λ (t : List ℕ). get_or t 1 0) e))
format_one textword textline r s e = absurd (omega (arith, ap (λ (t : List ℕ). get_or t 4 0) e))
format_one textword textword r s e = (refl, append_cancel_left (codes "TEXTWORD") r s e)

pub switch_one : (a b : Bool) (r s : List ℕ) → switch_word a ++ r ≡ switch_word b ++ s → (a ≡ b) × (r ≡ s)
switch_one true true r s e = (refl, append_cancel_left (codes "ON") r s e)
switch_one false false r s e = (refl, append_cancel_left (codes "OFF") r s e)
switch_one true false r s e = absurd (omega (arith, ap (λ (t : List ℕ). get_or t 1 0) e))
switch_one false true r s e = absurd (omega (arith, ap (λ (t : List ℕ). get_or t 1 0) e))

pub separator_one : (a b : Separator) (r s : List ℕ) → separator_word a ++ r ≡ separator_word b ++ s → (a ≡ b) × (r ≡ s)
separator_one tab tab r s e = (refl, append_cancel_left (codes "tab ") r s e)
separator_one space space r s e = (refl, append_cancel_left (codes "space ") r s e)
separator_one (byte a) (byte b) r s e = let same : a ≡ b = ap (λ (t : List ℕ). get_or t 0 0) e in (ap byte same, ap (drop 2) e)
separator_one tab space r s e = absurd (omega (arith, ap (λ (t : List ℕ). get_or t 0 0) e))
separator_one tab (byte b) r s e = absurd (omega (arith, ap (λ (t : List ℕ). get_or t 1 0) e))
separator_one space tab r s e = absurd (omega (arith, ap (λ (t : List ℕ). get_or t 0 0) e))
separator_one space (byte b) r s e = absurd (omega (arith, ap (λ (t : List ℕ). get_or t 1 0) e))
separator_one (byte a) tab r s e = absurd (omega (arith, ap (λ (t : List ℕ). get_or t 1 0) e))
separator_one (byte a) space r s e = absurd (omega (arith, ap (λ (t : List ℕ). get_or t 1 0) e))

pub format_short : (f : Format) → length (format_word f) ≤ 8
format_short iisw3c = lit≤ tt
format_short ncsa = lit≤ tt
format_short csv = lit≤ tt
format_short tsv = lit≤ tt
format_short textline = lit≤ tt
format_short textword = lit≤ tt

switch_short : (a : Bool) → length (switch_word a) ≤ 3
switch_short true = lit≤ tt
switch_short false = lit≤ tt

separator_short : (s : Separator) → length (separator_word s) ≤ 6
separator_short tab = lit≤ tt
separator_short space = lit≤ tt
separator_short (byte b) = omega arith

rotation_short : (a : Bool) → length (rotation_word a) ≤ 18
rotation_short true = lit≤ tt
rotation_short false = lit≤ tt

-- such a text has at most 64 bytes
pub input_short : (text : List ℕ) → IsInput text → length text ≤ 64
input_short text is =
    let i : Input = is.input in
    let e : List ℕ = separator_word i.separator ++ rotation_word i.numbers in
    let d : List ℕ = switch_word i.header_row ++ (codes " -iSeparator:" ++ e) in
    let b : List ℕ = format_word i.format ++ (codes " -headerRow:" ++ d) in
    omega (
      arith,
      ap length is.is,
      length-append (codes "-i:") b,
      length-append (format_word i.format) (codes " -headerRow:" ++ d),
      length-append (codes " -headerRow:") d,
      length-append (switch_word i.header_row) (codes " -iSeparator:" ++ e),
      length-append (codes " -iSeparator:") e,
      length-append (separator_word i.separator) (rotation_word i.numbers),
      format_short i.format,
      switch_short i.header_row,
      separator_short i.separator,
      rotation_short i.numbers,
    )

-- what is behind each word of such a text
pub behind_mark : (text rest : List ℕ) (i : Input) → text ≡ input_text i → text ≡ codes "-i:" ++ rest → rest ≡ format_word i.format ++ (codes " -headerRow:" ++ (switch_word i.header_row ++ (codes " -iSeparator:" ++ (separator_word i.separator ++ rotation_word i.numbers))))
behind_mark text rest i is e = append_cancel_left (codes "-i:") rest _ (sym e ∙ is)

pub behind_format : (text rest tail : List ℕ) (f g : Format) → text ≡ format_word g ++ tail → text ≡ format_word f ++ rest → rest ≡ tail
behind_format text rest tail f g is e = (format_one f g rest tail (sym e ∙ is)).1

pub behind_word : (word text rest tail : List ℕ) → text ≡ word ++ tail → text ≡ word ++ rest → rest ≡ tail
behind_word word text rest tail is e = append_cancel_left word rest tail (sym e ∙ is)

pub behind_switch : (text rest tail : List ℕ) (a b : Bool) → text ≡ switch_word b ++ tail → text ≡ switch_word a ++ rest → rest ≡ tail
behind_switch text rest tail a b is e = (switch_one a b rest tail (sym e ∙ is)).1

pub behind_separator : (text rest tail : List ℕ) (a b : Separator) → text ≡ separator_word b ++ tail → text ≡ separator_word a ++ rest → rest ≡ tail
behind_separator text rest tail a b is e = (separator_one a b rest tail (sym e ∙ is)).1
