-- The fields of a record.
use Rattle.std.proofs.Common.{◌≡◌, ℕ, zero, suc, ◌+◌, List, [], ◌∷◌, length, get_or, Option, Some, None, option_map, refl, sym, ◌∙◌, ap, arith}
use Rattle.std.specs.List.{slice_get}
use Rattle.lp_model.specs.Reading.{Slots}
use Rattle.line_input.specs.declared.slot.Slot.{Slot}
use Rattle.line_input.specs.Taken.{slots_of, slot_bytes}
use Rattle.lp_values.specs.declared.value.Value.TheVariants.{Null}
use Rattle.slot_reading.specs.declared.reading.SlotReading.{SlotReading}
use Rattle.slot_reading.specs.Slots.{value_of}
use Rattle.plan_rows.specs.Picks.{fields_read}
use Rattle.log_reading.proofs.Founds.{field_at}
use Rattle.log_reading.specs.Found.{held, slot_at}

-- the value of a field
pub fields_read-at : (readings : List SlotReading) (slots : Slots) (at k : ℕ) (reading : SlotReading) → slice_get readings k ≡ Some reading → get_or (fields_read readings slots at) k Null ≡ value_of reading (slot_at slots (at + k))
fields_read-at [] slots at k reading e = absurd cc
fields_read-at (first ∷ readings) slots at zero reading e =
    let here : first ≡ reading = cc in
    let sum : at ≡ at + 0 = omega arith in
    ap (λ r. value_of r (slot_at slots at)) here ∙ ap (λ n. value_of reading (slot_at slots n)) sum
fields_read-at (first ∷ readings) slots at (suc k) reading e =
    let sum : at + 1 + k ≡ at + suc k = omega arith in
    fields_read-at readings slots (at + 1) k reading e ∙ ap (λ n. value_of reading (slot_at slots n)) sum

pub fields_read-none : (readings : List SlotReading) (slots : Slots) (at k : ℕ) → slice_get readings k ≡ None → get_or (fields_read readings slots at) k Null ≡ Null
fields_read-none [] slots at k e = refl
fields_read-none (first ∷ readings) slots at zero e = absurd cc
fields_read-none (first ∷ readings) slots at (suc k) e = fields_read-none readings slots (at + 1) k e

-- the value of the field at a place
pub field_read : (readings : List SlotReading) (line : List ℕ) (fields : List Slot) (index : ℕ) (reading : SlotReading) (slot : Option Slot) → slice_get readings index ≡ Some reading → slot ≡ slice_get fields index
    → value_of reading (held (option_map (slot_bytes line) slot)) ≡ get_or (fields_read readings (slots_of line fields) 0) index Null
field_read readings line fields index reading slot there here =
    let sum : index ≡ 0 + index = omega arith in
    ap (λ s. value_of reading (held (option_map (slot_bytes line) s))) here
    ∙ (ap (value_of reading) (sym (field_at line fields index)) ∙ (ap (λ n. value_of reading (slot_at (slots_of line fields) n)) sum ∙ sym (fields_read-at readings (slots_of line fields) 0 index reading there)))

pub fields_length : (readings : List SlotReading) (slots : Slots) (at : ℕ) → length (fields_read readings slots at) ≡ length readings
fields_length [] slots at = refl
fields_length (reading ∷ readings) slots at = ap suc (fields_length readings slots (at + 1))
