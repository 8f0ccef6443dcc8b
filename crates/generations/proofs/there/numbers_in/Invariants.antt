use Rattle.std.proofs.Common.{◌≡◌, take}
use Rattle.generations.specs.There.{AreNumbers}
use Rattle.generations.proofs.there.numbers_in.Given as goal

abbrev pub invariant-loop-name : goal.invariant-loop-name
invariant-loop-name l = record { items : l.name-items ≡ l.names; are : AreNumbers l.front (take l.name-index l.name-items) l.numbers }
