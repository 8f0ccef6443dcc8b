use Rattle.std.proofs.Common.{◌≡◌, ◌++◌, [], map, take}
use Rattle.seating.specs.Gathered.{counted_of, seated}
use Rattle.seating.proofs.planning.add_arguments.Given as goal

abbrev pub invariant-loop-one : goal.invariant-loop-one
invariant-loop-one l = l.items ≡ l.initial.items ++ map (λ one. seated [] [] one.of) (map counted_of (take l.one-index l.found))
