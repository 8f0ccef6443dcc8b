-- The first fields of a line, as they are kept.
use Rattle.std.specs.Prelude.{◌≡◌, ℕ, Bool, List, length, map, take, nat_le}
use Rattle.line_input.specs.declared.slot.Slot.{Slot}
use Rattle.line_input.specs.Taken.{slots_of}
use Rattle.delimited_input.specs.Lines.{slot_of}

-- at most so many of the fields stand in a row, and it is told whether these are all
pub record IsCut (line : List ℕ) (fields : List (List ℕ)) (most : ℕ) (row : List Slot) (all : Bool) : Type 0 where
  pub kept : slots_of line row ≡ map slot_of (take most fields)
  pub whole : all ≡ nat_le (length fields) most
