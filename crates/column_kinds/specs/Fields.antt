-- The fields of a record under the columns of a run's first log.
use Rattle.std.specs.Prelude.{ℕ, ◌+◌, Bool, true, false, List, [], ◌∷◌, Option, Some, None, bytes_eq}
use Rattle.std.specs.List.{position}
use Rattle.std.specs.Str.Lossy.{utf8_lossy}
use Rattle.lp_model.specs.Reading.{Columns, Slots}
use Rattle.slot_reading.specs.Names.{is_same_name}
use Rattle.log_reading.specs.Found.{Found, slot_at}
use Rattle.column_kinds.specs.declared.kept.FirstLog.{FirstLog}

-- what each of a list gives at its place, counted from a place on
abbrev pub indexed : {A B : Type 0} → (ℕ → A → B) → ℕ → List A → List B
indexed make at [] = []
indexed make at (x ∷ xs) = make at x ∷ indexed make (at + 1) xs

-- the first of a record's own columns that has this name, ASCII case ignored
abbrev pub own_place : Option Columns → List ℕ → Option ℕ
own_place None name = None
own_place (Some own) name = position (λ column. is_same_name column name) own

-- where a record has the field of a column at a place: there, if it is of the first log; else where its own columns have that name
abbrev pub place_for : Bool → Option Columns → ℕ → List ℕ → Option ℕ
place_for true own at name = Some at
place_for false own at name = own_place own name

abbrev pub field_in : Slots → Option ℕ → Option (List ℕ)
field_in slots None = None
field_in slots (Some place) = slot_at slots place

-- whether this is the run's first log that has columns
abbrev pub is_first : Option (List ℕ) → List ℕ → Bool
is_first None identity = false
is_first (Some log) identity = bytes_eq log identity

-- the field of a column, none where the record lacks it
abbrev pub field_for : Option (List ℕ) → Found → ℕ → List ℕ → Option (List ℕ)
field_for log found at name = field_in found.row.slots (place_for (is_first log found.identity) found.row.columns at name)

-- a field's text, of which what is no UTF-8 is repaired; a missing one is empty
abbrev pub text_of : Option (List ℕ) → List ℕ
text_of None = []
text_of (Some bytes) = utf8_lossy bytes

-- the texts of a record
abbrev pub texts_under : FirstLog → Found → List (List ℕ)
texts_under first found = indexed (λ at name. text_of (field_for (Some first.identity) found at name)) 0 first.columns
