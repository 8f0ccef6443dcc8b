use Rattle.std.proofs.Common.{◌≡◌, drop}
use Rattle.ledger.specs.Placing.{hash_on}
use Rattle.ledger.proofs.placing.hash_of.Given as goal

abbrev pub invariant-loop-byte : goal.invariant-loop-byte
invariant-loop-byte l = hash_on 0 l.bytes ≡ hash_on l.hash (drop l.byte-index l.bytes)
