-- Lines of logs in the common and combined log formats.
use Rattle.std.specs.Prelude.{ℕ, ◌+◌, ◌-◌, ◌==◌, Bool, ◌||◌, List, [], ◌∷◌, ◌++◌, length, map, drop, replicate, if◌then◌else◌, Option, Some, None, option_map, option_and_then}
use Rattle.std.specs.List.{list_all, prefix_len}
use Rattle.lp_model.specs.Reading.{Columns, Slots, Format, Reading, passed, bad, rows}
use Rattle.line_input.specs.Parts.{field_of}
use Rattle.ncsa_input.specs.declared.shape.Shape.{Shape}
use Rattle.ncsa_input.specs.declared.shape.Shape.TheVariants.{Word, Bracketed, Quoted}
use Rattle.ncsa_input.specs.Shapes.{taken}

-- host, log name, user, time, request, status, bytes, referer, user agent, cookie
abbrev pub shapes : List Shape
shapes = Word ∷ Word ∷ Word ∷ Bracketed ∷ Quoted ∷ Word ∷ Word ∷ Quoted ∷ Quoted ∷ Quoted ∷ []

-- a line ends behind the bytes, behind the user agent or behind the cookie
abbrev pub may_end : ℕ → Bool
may_end parts = parts == 7 || parts == 9 || parts == 10

abbrev pub is_space : ℕ → Bool
is_space byte = byte == 32

-- what is left of a text behind the spaces at its front, where it has some
abbrev pub behind_spaces : List ℕ → Option (List ℕ)
behind_spaces [] = None
behind_spaces (b ∷ bs) = if is_space b then Some (drop (prefix_len is_space bs) bs) else None

-- the fields of a line whose first parts were taken: the parts stand one or more spaces apart, and the line ends where it
-- may
unfoldable pub fields_behind : ℕ → List Shape → List ℕ → Option (List (List ℕ))
fields_behind parts [] text = None
fields_behind parts (shape ∷ shapes) text = option_and_then (λ part.
    if length part.1 == 0 then (if may_end (parts + 1) then Some (part.0 ∷ []) else None)
    else option_and_then (λ rest. option_map (λ fields. part.0 ∷ fields) (fields_behind (parts + 1) shapes rest)) (behind_spaces part.1)) (taken shape text)

-- the fields of a line
abbrev pub line_fields : List ℕ → Option (List (List ℕ))
line_fields text = fields_behind 0 shapes text

-- ten slots; `-` is none, in quotes too
abbrev pub ten_slots : List (List ℕ) → Slots
ten_slots fields = map field_of fields ++ replicate (10 - length fields) None

abbrev pub row_reading : Option (List (List ℕ)) → Reading
row_reading None = bad
row_reading (Some fields) = rows (ten_slots fields ∷ [])

abbrev pub is_of_spaces : List ℕ → Bool
is_of_spaces text = list_all is_space text

-- what a line is
abbrev pub ncsa_reading : List ℕ → Option Columns → Reading
ncsa_reading text columns = if is_of_spaces text then passed else row_reading (line_fields text)

-- no line sets columns
unfoldable pub ncsa_lines : Format
ncsa_lines = record { columns_after = λ texts. None; reading = ncsa_reading }
