-- Lines of CSV and TSV files.
use Rattle.std.specs.Prelude.{ℕ, ◌-◌, ◌==◌, Bool, not, ◌&&◌, ◌||◌, List, [], ◌∷◌, ◌++◌, length, map, take, replicate, nat_le, if◌then◌else◌, Option, Some, None, option_map}
use Rattle.std.specs.List.{find, list_any}
use Rattle.lp_model.specs.Reading.{Columns, Slots, Format, Reading, passed, bad, rows}
use Rattle.delimited_input.specs.declared.options.DelimitedOptions.{DelimitedOptions}
use Rattle.delimited_input.specs.Fields.{fields_of}
use Rattle.delimited_input.specs.Names.{made_names, header_names}

abbrev pub fields_in : DelimitedOptions → List ℕ → List (List ℕ)
fields_in options text = fields_of options.separator options.quotes text

abbrev pub is_empty : List ℕ → Bool
is_empty text = length text == 0

-- CR, LF
abbrev pub ends_lines : ℕ → Bool
ends_lines byte = byte == 13 || byte == 10

-- a line that has a line's end inside
unfoldable pub is_broken : List ℕ → Bool
is_broken text = list_any ends_lines text

abbrev pub most_columns : ℕ
most_columns = 1024

abbrev pub has_columns : List (List ℕ) → Bool
has_columns fields = nat_le (length fields) most_columns

-- the columns that fields set: a header names them; without headers they are as many as the first row's fields
abbrev pub columns_of : DelimitedOptions → List (List ℕ) → Columns
columns_of options fields = if options.header_row then header_names (take most_columns fields) else made_names (length fields)

-- without headers the first row has no more fields than there may be columns
abbrev pub sets_columns : DelimitedOptions → List (List ℕ) → Bool
sets_columns options fields = options.header_row || has_columns fields

-- what may set columns is a line that is neither empty nor broken
abbrev pub may_set : DelimitedOptions → List ℕ → Bool
may_set options text = not (is_empty text) && not (is_broken text) && sets_columns options (fields_in options text)

-- the first line that may set columns sets them
abbrev pub columns_after : DelimitedOptions → List (List ℕ) → Option Columns
columns_after options texts = option_map (λ text. columns_of options (fields_in options text)) (find (may_set options) texts)

-- an empty field is none
abbrev pub slot_of : List ℕ → Option (List ℕ)
slot_of field = if is_empty field then None else Some field

-- the fields of a row under so many columns; those that are missing are none
abbrev pub slots_under : ℕ → List (List ℕ) → Slots
slots_under many fields = map slot_of fields ++ replicate (many - length fields) None

-- a row has no more fields than columns
abbrev pub row_reading : ℕ → List (List ℕ) → Reading
row_reading many fields = if nat_le (length fields) many then rows (slots_under many fields ∷ []) else bad

-- the first line is the header, which is passed, or the first row
abbrev pub first_reading : DelimitedOptions → List (List ℕ) → Reading
first_reading options fields = if options.header_row then passed else if has_columns fields then rows (map slot_of fields ∷ []) else bad

abbrev pub filled_reading : DelimitedOptions → List (List ℕ) → Option Columns → Reading
filled_reading options fields None = first_reading options fields
filled_reading options fields (Some names) = row_reading (length names) fields

-- what a line is under the columns in force
abbrev pub delimited_reading : DelimitedOptions → List ℕ → Option Columns → Reading
delimited_reading options text columns =
    if is_empty text then passed
    else if is_broken text then bad
    else filled_reading options (fields_in options text) columns

unfoldable pub delimited_lines : DelimitedOptions → Format
delimited_lines options = record { columns_after = columns_after options; reading = delimited_reading options }
