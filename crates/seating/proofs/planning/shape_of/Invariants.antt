use Rattle.std.proofs.Common.{◌≡◌, map, take}
use Rattle.seating.specs.Gathered.{counted_of}
use Rattle.seating.proofs.planning.shape_of.Given as goal

abbrev pub invariant-loop-one : goal.invariant-loop-one
invariant-loop-one l = l.aggregates ≡ map (λ one. one.how) (map counted_of (take l.one-index l.found))
