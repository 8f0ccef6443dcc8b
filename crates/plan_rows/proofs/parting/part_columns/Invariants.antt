use Rattle.std.proofs.Common.{◌≡◌, option_map}
use Rattle.query_types.specs.Conditions.{filter_of}
use Rattle.plan_rows.proofs.PartedLemmas.{PartedTo}
use Rattle.plan_rows.proofs.parting.part_columns.Given as goal

-- The columns so far are parted.
abbrev pub invariant-loop-used : goal.invariant-loop-used
invariant-loop-used l = record {
  column : l.column ≡ l.used-index;
  parted : PartedTo l.plan.used l.used-index l.asked l.rest (option_map filter_of l.plan.condition);
}
