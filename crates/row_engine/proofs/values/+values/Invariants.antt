use Rattle.std.proofs.Common.{◌≡◌, ◌≤◌, ◌+◌, ◌-◌, drop, take, length}
use Rattle.row_engine.specs.Rows.{branch_of, forms_in}
use Rattle.row_engine.proofs.values.+values.Given as goal

abbrev pub invariant-called_with_many-loop-part : goal.invariant-called_with_many-loop-part
invariant-called_with_many-loop-part l = l.values ≡ forms_in l.row (take l.part-index l.of)

abbrev pub invariant-branched-loop-at : goal.invariant-branched-loop-at
invariant-branched-loop-at l = record {
  within : l.at ≤ length l.of + 1;
  same : branch_of l.subject (drop 1 (forms_in l.row l.of)) ≡ branch_of l.subject (drop l.at (forms_in l.row l.of));
}

abbrev pub decreases-branched-loop-at : goal.decreases-branched-loop-at
decreases-branched-loop-at l = length l.of - l.at
