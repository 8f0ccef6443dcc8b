use Rattle.std.proofs.Common.{◌≡◌, ◌++◌, drop, Some}
use Rattle.column_kinds.specs.Fields.{indexed, field_for, text_of}
use Rattle.column_kinds.specs.Kept.{found_in}
use Rattle.column_kinds.proofs.judging.texts_under.Given as goal

abbrev pub invariant-loop-column : goal.invariant-loop-column
invariant-loop-column l = record {
  at : l.at ≡ l.column-index;
  texts : indexed (λ at name. text_of (field_for (Some l.first.identity) (found_in l.row) at name)) 0 l.column-items
      ≡ l.texts ++ indexed (λ at name. text_of (field_for (Some l.first.identity) (found_in l.row) at name)) l.column-index (drop l.column-index l.column-items);
}
