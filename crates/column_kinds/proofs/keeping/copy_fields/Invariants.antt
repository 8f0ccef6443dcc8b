use Rattle.std.proofs.Common.{◌≡◌, take}
use Rattle.column_kinds.proofs.keeping.copy_fields.Given as goal

abbrev pub invariant-loop-slot : goal.invariant-loop-slot
invariant-loop-slot l = l.copy ≡ take l.slot-index l.slot-items
