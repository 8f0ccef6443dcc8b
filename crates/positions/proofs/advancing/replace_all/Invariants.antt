use Rattle.std.proofs.Common.{◌≡◌, ◌++◌, List, length}
use Rattle.std.specs.List.{AllZip}
use Rattle.std.specs.Vec.Iter.{into_iter_items, into_iter_len}
use Rattle.ledger_model.specs.Entries.{Span}
use Rattle.positions.specs.Places.{Remembers}
use Rattle.positions.specs.Loads.{AreSpans}
use Rattle.positions.specs.Advances.{IsLeftBy, LeftsHaveRoom}
use Rattle.positions.proofs.Leaving.{LeftsAhead}
use Rattle.positions.proofs.advancing.replace_all.Given as goal

abbrev pub invariant-loop-left : goal.invariant-loop-left
invariant-loop-left l = record {
  next : (goal.iterator-loop-left).can_next l.left-iterator;
  finite : (goal.iterator-loop-left).is_finite l.left-iterator;
  count : into_iter_len l.left-iterator ≡ length (into_iter_items l.left-iterator);
  room : LeftsHaveRoom l.places.entries (into_iter_items l.left-iterator);
  ahead : (before spans : List Span) → AllZip IsLeftBy spans l.fn.lefts.items → AreSpans spans → Remembers before l.fn.places.entries → LeftsAhead (into_iter_items l.left-iterator) (before ++ spans) l.places.entries;
}
