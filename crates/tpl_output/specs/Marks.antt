-- What stands in the place of marks in a section.
use Rattle.std.specs.Prelude.{ℕ, zero, suc, ◌+◌, ◌-◌, ◌*◌, Bool, ◌&&◌, List, [], ◌∷◌, ◌++◌, length, take, drop, codes, decimal, nat_le, ◌==◌, if◌then◌else◌, Option, Some, None, option_map, ℤ, slice_get, position}
use Rattle.std.specs.Char.{is_ascii_digit}
use Rattle.std.specs.Option.{option_or, option_map_or, option_and_then}
use Rattle.lp_values.specs.Printed.{printed, printed_stamp}
use Rattle.lp_values.specs.Civil.{civil_of}
use Rattle.lp_values.specs.declared.part.Part.TheVariants.{Both}
use Rattle.lp_values.specs.declared.value.Value.{Value}
use Rattle.tpl_output.specs.declared.mark.Mark.{Mark}
use Rattle.tpl_output.specs.declared.mark.Mark.TheVariants as M
use Rattle.tpl_output.specs.declared.mark.FoundMark.{FoundMark}
use Rattle.tpl_output.specs.Words.{is_same_word, begins_as}

-- the number that digits are, behind others
unfoldable pub number_from : ℕ → List ℕ → Option ℕ
number_from so_far [] = Some so_far
number_from so_far (c ∷ cs) = if is_ascii_digit c then number_from (so_far * 10 + (c - 48)) cs else None

-- the place of a column, counted from 0, that a number from 1 tells
abbrev pub place_of : ℕ → ℕ → Option ℕ
place_of columns number = if nat_le 1 number && nat_le number columns then Some (number - 1) else None

-- the column that digits tell
abbrev pub column_of : ℕ → List ℕ → Option ℕ
column_of columns digits = option_and_then (place_of columns) (number_from 0 digits)

-- the column that a word with a number tells
abbrev pub numbered : ℕ → List ℕ → List ℕ → Option ℕ
numbered columns word inner = if begins_as word inner then column_of columns (drop (length word) inner) else None

-- the first column of a name
abbrev pub named : List (List ℕ) → List ℕ → Option ℕ
named names inner = position (λ name. is_same_word name inner) names

-- the mark whose text between two `%` this is; values have marks in a body alone
abbrev pub mark_of : List (List ℕ) → Bool → List ℕ → Option Mark
mark_of names body inner =
    if is_same_word inner (codes "FIELDS_NUM") then Some M.Count
    else if is_same_word inner (codes "SYSTEM_TIMESTAMP") then Some M.Moment
    else option_or (option_map M.Name (numbered (length names) (codes "FIELDNAME_") inner))
    (if body then option_map M.Value (option_or (numbered (length names) (codes "FIELD_") inner) (named names inner)) else None)

abbrev pub found_at : ℕ → Mark → FoundMark
found_at at mark = record { mark = mark; size = at + 1 }

-- the mark that ends at a byte
abbrev pub ended_at : List (List ℕ) → Bool → List ℕ → ℕ → ℕ → Option FoundMark
ended_at names body text at c = if c == 37 then option_map (found_at at) (mark_of names body (take at text)) else None

-- the shortest mark of a text that ends at a `%` from a place on
unfoldable pub mark_from : List (List ℕ) → Bool → List ℕ → ℕ → List ℕ → Option FoundMark
mark_from names body text at [] = None
mark_from names body text at (c ∷ cs) =
    option_or (ended_at names body text at c) (mark_from names body text (at + 1) cs)

-- the mark that a `%` before a text begins
abbrev pub mark_in : List (List ℕ) → Bool → List ℕ → Option FoundMark
mark_in names body text = mark_from names body text 0 text

-- the mark that a text begins with
abbrev pub mark_at : List (List ℕ) → Bool → ℕ → List ℕ → Option FoundMark
mark_at names body c cs = if c == 37 then mark_in names body cs else None

-- the printed value of a column; NULL and a value that isn't there are empty
abbrev pub value_text : List Value → ℕ → List ℕ
value_text values column = option_map_or printed (slice_get values column) []

abbrev pub name_text : List (List ℕ) → ℕ → List ℕ
name_text names column = option_map_or (λ name. name) (slice_get names column) []

-- what stands in the place of a mark
abbrev pub mark_text : List (List ℕ) → ℤ → List Value → Mark → List ℕ
mark_text names moment values (M.Value column) = value_text values column
mark_text names moment values (M.Name column) = name_text names column
mark_text names moment values M.Count = decimal (length names)
mark_text names moment values M.Moment = printed_stamp (civil_of moment) Both

-- what stands in the place of a byte: a `%` that begins no mark stands for itself
abbrev pub shown : List (List ℕ) → ℤ → List Value → ℕ → Option FoundMark → List ℕ
shown names moment values c found = option_map_or (λ f. mark_text names moment values f.mark) found (c ∷ [])

abbrev pub size_of : Option FoundMark → ℕ
size_of found = option_map_or (λ f. f.size) found 0

-- a section's text with its marks replaced; `skip` more bytes belong to a mark
unfoldable pub filled_from : List (List ℕ) → ℤ → Bool → List Value → ℕ → List ℕ → List ℕ
filled_from names moment body values skip [] = []
filled_from names moment body values (suc skip) (c ∷ cs) = filled_from names moment body values skip cs
filled_from names moment body values zero (c ∷ cs) =
    shown names moment values c (mark_at names body c cs) ++ filled_from names moment body values (size_of (mark_at names body c cs)) cs

abbrev pub filled : List (List ℕ) → ℤ → Bool → List Value → List ℕ → List ℕ
filled names moment body values text = filled_from names moment body values 0 text
