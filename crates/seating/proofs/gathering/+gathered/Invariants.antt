use Rattle.std.proofs.Common.{◌≡◌, map, drop}
use Rattle.seating.specs.Gathered.{all_gathered, counted_of}
use Rattle.senses.specs.Senses.{sense_of, senses_of}
use Rattle.seating.proofs.gathering.+gathered.Given as goal

abbrev pub invariant-gather_all-loop-sense : goal.invariant-gather_all-loop-sense
invariant-gather_all-loop-sense l = all_gathered (map counted_of l.initial.found.items) (senses_of (map sense_of l.senses)) ≡ all_gathered (map counted_of l.found.items) (senses_of (map sense_of (drop l.sense-index l.senses)))
