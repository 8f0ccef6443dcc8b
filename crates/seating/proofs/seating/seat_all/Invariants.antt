use Rattle.std.proofs.Common.{◌≡◌, map, take}
use Rattle.seating.specs.Gathered.{counted_of, seated}
use Rattle.senses.specs.Senses.{sense_of}
use Rattle.seating.proofs.seating.seat_all.Given as goal

abbrev pub invariant-loop-sense : goal.invariant-loop-sense
invariant-loop-sense l = l.meanings ≡ map (seated (map sense_of l.keys) (map counted_of l.found)) (map sense_of (take l.sense-index l.senses))
