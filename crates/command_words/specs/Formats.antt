-- The formats, and which one a name chooses.
use Rattle.std.specs.Prelude.{ℕ, Bool, ◌&&◌, ◌||◌, List, [], ◌∷◌, codes, find, nat_eq, ◌==◌, if◌then◌else◌, Option}
use Rattle.std.specs.List.{after_last, ends_with}
use Rattle.command_words.specs.declared.formats.InputFormat.{InputFormat}
use Rattle.command_words.specs.declared.formats.InputFormat.TheVariants as I
use Rattle.command_words.specs.declared.formats.OutputFormat.{OutputFormat}
use Rattle.command_words.specs.declared.formats.OutputFormat.TheVariants as O
use Rattle.command_words.specs.Texts.{same_text, begins_as, ends_as}

abbrev pub input_name : InputFormat → List ℕ
input_name I.IisW3c = codes "IISW3C"
input_name I.Ncsa = codes "NCSA"
input_name I.Csv = codes "CSV"
input_name I.Tsv = codes "TSV"
input_name I.TextLine = codes "TEXTLINE"
input_name I.TextWord = codes "TEXTWORD"

abbrev pub output_name : OutputFormat → List ℕ
output_name O.Nat = codes "NAT"
output_name O.Csv = codes "CSV"
output_name O.Tsv = codes "TSV"
output_name O.W3c = codes "W3C"
output_name O.Tpl = codes "TPL"

-- all formats
abbrev pub inputs : List InputFormat
inputs = I.IisW3c ∷ I.Ncsa ∷ I.Csv ∷ I.Tsv ∷ I.TextLine ∷ I.TextWord ∷ []

abbrev pub outputs : List OutputFormat
outputs = O.Nat ∷ O.Csv ∷ O.Tsv ∷ O.W3c ∷ O.Tpl ∷ []

-- the format of that name, whatever its case
abbrev pub input_in : List ℕ → Option InputFormat
input_in text = find (λ format. same_text text (input_name format)) inputs

abbrev pub output_in : List ℕ → Option OutputFormat
output_in text = find (λ format. same_text text (output_name format)) outputs

abbrev pub is_slash : ℕ → Bool
is_slash byte = byte == 47

-- what stands behind the last slash of a name
abbrev pub last_part : List ℕ → List ℕ
last_part name = after_last is_slash name

-- the format of a log whose name has this last part
abbrev pub input_of_part : List ℕ → InputFormat
input_of_part part =
    if ends_as part (codes ".csv") then I.Csv
    else if ends_as part (codes ".tsv") then I.Tsv
    else if (begins_as part (codes "ex") || begins_as part (codes "u_ex")) && ends_as part (codes ".log") then I.IisW3c
    else if begins_as part (codes "nc") && ends_as part (codes ".log") then I.Ncsa
    else I.TextLine

-- the format of a log by its name, where no word says it
abbrev pub input_by_name : List ℕ → InputFormat
input_by_name name = input_of_part (last_part name)

-- the format of an output by its name, where no word says it
abbrev pub output_by_name : List ℕ → OutputFormat
output_by_name name =
    if ends_with nat_eq name (codes ".csv") then O.Csv
    else if ends_with nat_eq name (codes ".tsv") then O.Tsv
    else if ends_with nat_eq name (codes ".log") then O.W3c
    else O.Nat
