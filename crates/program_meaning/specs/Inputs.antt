-- The text by which a ledger keeps how its logs are read: that of a run, and the format that such a text tells.
use Rattle.std.specs.Prelude.{ℕ, Bool, true, false, List, [], ◌∷◌, ◌++◌, ◌==◌, length, take, drop, codes, bytes_eq, find, if◌then◌else◌, Option, Some, None}
use Rattle.grammar.specs.Trees.{Query}
use Rattle.ledger_model.specs.Inputs.{Format, iisw3c, ncsa, csv, tsv, textline, textword, Separator, tab, space, byte, Input, format_word, switch_word}
use Rattle.lp_model.specs.Reading.{Format as Lines}
use Rattle.command_words.specs.declared.formats.InputFormat.{InputFormat}
use Rattle.command_words.specs.declared.formats.InputFormat.TheVariants as I
use Rattle.command_words.specs.declared.modes.Rotation.{Rotation}
use Rattle.command_words.specs.declared.modes.Rotation.TheVariants as R
use Rattle.command_words.specs.declared.spec.Spec.{Spec}
use Rattle.delimited_input.specs.Lines.{delimited_lines}
use Rattle.subqueries.specs.Formats.{input_of}
use Rattle.input_tables.specs.declared.format.TableFormat.TheVariants as T
use Rattle.input_tables.specs.Tables.{lines_of}

-- the text of a run

abbrev pub format_as : InputFormat → Format
format_as I.IisW3c = iisw3c
format_as I.Ncsa = ncsa
format_as I.Csv = csv
format_as I.Tsv = tsv
format_as I.TextLine = textline
format_as I.TextWord = textword

abbrev pub separator_as : ℕ → Separator
separator_as b = if b == 9 then tab else if b == 32 then space else byte b

abbrev pub is_numbers : Rotation → Bool
is_numbers R.Names = false
is_numbers R.Numbers = true

-- how the logs of a query are read, as the words say or leave it to the first FROM name
abbrev pub input_for : Spec → Query → Input
input_for spec q = record { format = format_as (input_of spec q); header_row = spec.header_row; separator = separator_as spec.separator; numbers = is_numbers spec.rotation }

-- the format of a text

abbrev pub starts : List ℕ → List ℕ → Bool
starts text front = bytes_eq (take (length front) text) front

-- a text up to the separator
abbrev pub front_of : Format → Bool → List ℕ
front_of format header_row = codes "-i:" ++ (format_word format ++ (codes " -headerRow:" ++ (switch_word header_row ++ codes " -iSeparator:")))

-- the separator that a text begins with
abbrev pub separator_in : List ℕ → ℕ
separator_in [] = 0
separator_in (b ∷ text) = if starts (b ∷ text) (codes "tab ") then 9 else if starts (b ∷ text) (codes "space ") then 32 else b

-- the lines of logs that are read so
abbrev pub lines_as : Format → Bool → ℕ → Lines
lines_as iisw3c header_row separator = lines_of T.IisW3c
lines_as ncsa header_row separator = lines_of T.Ncsa
lines_as csv header_row separator = delimited_lines (record { separator = 44; quotes = true; header_row = header_row })
lines_as tsv header_row separator = delimited_lines (record { separator = separator; quotes = false; header_row = header_row })
lines_as textline header_row separator = lines_of T.TextLine
lines_as textword header_row separator = lines_of T.TextWord

-- a format and its switch
pub record Begun : Type 0 where
  pub format : Format
  pub header_row : Bool

abbrev pub begun : Format → Bool → Begun
begun format header_row = record { format = format; header_row = header_row }

abbrev pub all_begun : List Begun
all_begun =
    begun iisw3c true ∷ begun iisw3c false ∷ begun ncsa true ∷ begun ncsa false ∷ begun csv true ∷ begun csv false ∷ begun tsv true ∷ begun tsv false
    ∷ begun textline true ∷ begun textline false ∷ begun textword true ∷ begun textword false ∷ []

abbrev pub lines_begun : List ℕ → Option Begun → Lines
lines_begun text None = lines_of T.TextLine
lines_begun text (Some b) = lines_as b.format b.header_row (separator_in (drop (length (front_of b.format b.header_row)) text))

-- how logs are read by the text of some options
unfoldable pub format_in : List ℕ → Lines
format_in text = lines_begun text (find (λ (b : Begun). starts text (front_of b.format b.header_row)) all_begun)
