use Rattle.std.proofs.Common.{◌≡◌, ◌++◌, replicate}
use Rattle.lp_values.specs.declared.value.Value.TheVariants.{Int}
use Rattle.row_steps.proofs.group_row.add_copies.Given as goal

abbrev pub invariant-loop-place : goal.invariant-loop-place
invariant-loop-place l = l.values ≡ l.initial.values ++ replicate l._place (Int l.number)
