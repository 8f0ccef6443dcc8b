use Rattle.std.proofs.Common.{◌≡◌, map, drop}
use Rattle.judging.specs.Judged.{all_misplaced}
use Rattle.senses.specs.Senses.{sense_of, senses_of}
use Rattle.judging.proofs.judging.+places.Given as goal

abbrev pub invariant-all_misplaced-loop-sense : goal.invariant-all_misplaced-loop-sense
invariant-all_misplaced-loop-sense l = all_misplaced (map sense_of l.keys) l.free (senses_of (map sense_of l.senses)) ≡ all_misplaced (map sense_of l.keys) l.free (senses_of (map sense_of (drop l.sense-index l.senses)))
