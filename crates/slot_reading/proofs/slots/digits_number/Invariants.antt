use Rattle.slot_reading.proofs.Numbers.{Counted}
use Rattle.slot_reading.proofs.slots.digits_number.Given as goal

abbrev pub invariant-loop-byte : goal.invariant-loop-byte
invariant-loop-byte l = Counted l.bytes l.byte-index l.number
