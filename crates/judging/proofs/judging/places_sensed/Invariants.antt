use Rattle.std.proofs.Common.{◌≡◌, map, drop}
use Rattle.query_tree.specs.Views.{tree_of}
use Rattle.query_types.specs.Meanings.{joined}
use Rattle.judging.specs.Judged.{places_sensed}
use Rattle.senses.specs.Senses.{sense_of}
use Rattle.judging.proofs.judging.places_sensed.Given as goal

abbrev pub invariant-loop-value : goal.invariant-loop-value
invariant-loop-value l = places_sensed (map sense_of l.keys) l.free (map sense_of l.items) (map tree_of l.value-items) (map sense_of l.initial.rest)
    ≡ joined l.places (places_sensed (map sense_of l.keys) l.free (map sense_of l.items) (map tree_of (drop l.value-index l.value-items)) (map sense_of l.rest))
