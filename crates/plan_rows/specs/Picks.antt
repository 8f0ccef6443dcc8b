-- What a plan makes of a record.
use Rattle.std.specs.Prelude.{◌≡◌, ◌<◌, ◌==◌, ◌||◌, ℕ, ◌+◌, Bool, true, false, pos, List, [], ◌∷◌, length, get_or, Option, Some, None}
use Rattle.std.specs.List.{list_any}
use Rattle.lp_model.specs.Reading.{Slots}
use Rattle.lp_values.specs.declared.value.Value.{Value}
use Rattle.lp_values.specs.declared.value.Value.TheVariants.{Null, Int, Text}
use Rattle.log_reading.specs.Found.{Found, slot_at}
use Rattle.slot_reading.specs.declared.reading.SlotReading.{SlotReading}
use Rattle.slot_reading.specs.Slots.{value_of}
use Rattle.query_types.specs.Terms.{Term, any_has_column}
use Rattle.query_types.specs.Conditions.{Filter}
use Rattle.query_types.specs.Planned.{is_mentioned}
use Rattle.row_engine.specs.Rows.{keeps, selected_in}

-- the values of a record's fields from a place on, each read as its column is; a field that the record lacks is NULL
abbrev pub fields_read : List SlotReading → Slots → ℕ → List Value
fields_read [] slots at = []
fields_read (reading ∷ readings) slots at = value_of reading (slot_at slots at) ∷ fields_read readings slots (at + 1)

-- the row of a record: its log, its number, and its fields
abbrev pub table_row : List SlotReading → Found → List Value
table_row readings found = Text found.identity ∷ Int (pos found.row.number) ∷ fields_read readings found.row.slots 0

abbrev pub if_kept : Bool → List Value → Option (List Value)
if_kept true row = Some row
if_kept false row = None

-- the output row of a record, if its condition is Yes
abbrev pub plan_picks : List SlotReading → List Term → Option Filter → Found → Option (List Value)
plan_picks readings items condition found = let row = table_row readings found in if_kept (keeps condition row) (selected_in row items)

-- whether a column is one of these
abbrev pub is_among : ℕ → List ℕ → Bool
is_among k columns = list_any (λ column. column == k) columns

-- the values of a row were put at the places of some columns; what stands at other places stays
pub record Put (columns : List ℕ) (row old new : List Value) : Type 0 where
  pub size : length new ≡ length old
  pub put : (k : ℕ) → is_among k columns ≡ true → get_or new k Null ≡ get_or row k Null
  pub kept : (k : ℕ) → is_among k columns ≡ false → get_or new k Null ≡ get_or old k Null

-- a plan's columns, of so many, in two parts: those that WHERE asks, and the others that SELECT takes
pub record Parted (many : ℕ) (asked rest : List ℕ) (items : List Term) (condition : Option Filter) : Type 0 where
  pub mentioned : (k : ℕ) → k < many → is_mentioned k condition ≡ true → is_among k asked ≡ true
  pub item : (k : ℕ) → k < many → any_has_column k items ≡ true → (is_among k asked || is_among k rest) ≡ true
