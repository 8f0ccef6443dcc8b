use Rattle.std.proofs.Common.{◌≡◌, map, take}
use Rattle.senses.specs.Senses.{kind_sensed, sense_of}
use Rattle.senses.proofs.kinds.kinds_of_senses.Given as goal

abbrev pub invariant-loop-sense : goal.invariant-loop-sense
invariant-loop-sense l = l.kinds ≡ map (kind_sensed l.table.columns) (map sense_of (take l.sense-index l.senses))
