-- Fields as they are kept, and their bytes.
use Rattle.std.specs.Prelude.{ℕ, List, [], map, Option, Some, None}
use Rattle.line_input.specs.Taken.{slot_bytes}
use Rattle.line_input.specs.declared.slot.Slot.{Slot}

-- the bytes of a field, of which an empty one is none
abbrev pub bytes_or_none : Option (List ℕ) → List ℕ
bytes_or_none None = []
bytes_or_none (Some bytes) = bytes

abbrev pub text_of : List ℕ → Slot → List ℕ
text_of line slot = bytes_or_none (slot_bytes line slot)

abbrev pub texts_of : List ℕ → List Slot → List (List ℕ)
texts_of line slots = map (text_of line) slots
