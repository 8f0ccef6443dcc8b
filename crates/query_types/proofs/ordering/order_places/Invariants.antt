use Rattle.std.proofs.Common.{◌≡◌, map, drop}
use Rattle.query_tree.specs.Views.{tree_of}
use Rattle.query_types.specs.Meanings.{joined}
use Rattle.query_types.specs.Orders.{order_places}
use Rattle.query_types.proofs.ordering.order_places.Given as goal

abbrev pub invariant-loop-value : goal.invariant-loop-value
invariant-loop-value l = order_places l.items (map tree_of l.value-items) l.initial.rest
    ≡ joined l.places (order_places l.items (map tree_of (drop l.value-index l.value-items)) l.rest)
