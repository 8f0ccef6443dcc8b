use Rattle.std.proofs.Common.{◌≡◌, ◌≤◌, take, drop, length}
use Rattle.text_output.specs.Output.{kind_of}
use Rattle.row_steps.specs.Grouped.{group_output}
use Rattle.row_steps.specs.Rows.{PutsRows}
use Rattle.row_steps.proofs.handing.put_groups.Given as goal

-- The rows of the groups so far were put, and those that are left stand where they stood.
abbrev pub invariant-loop-index : goal.invariant-loop-index
invariant-loop-index g l = record {
  puts : PutsRows (kind_of g.G.Stage.state g.G.Stage.ended) (group_output l.plan.plan (take l.index l.initial.groups)) l.initial.output l.initial.stage l.output l.stage;
  behind : drop l.index l.groups ≡ drop l.index l.initial.groups;
  size : length l.groups ≡ length l.initial.groups;
  count : l.output.put ≤ l.index;
  goes : g.G.Stage.goes l.initial.stage l.stage;
  later : g.G.Stage.faults l.initial.stage ≤ g.G.Stage.faults l.stage;
}
