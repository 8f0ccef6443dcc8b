use Rattle.std.proofs.Common.{◌≡◌, ◌≤◌, ◌<◌, [], take, drop, length}
use Rattle.text_output.specs.Output.{kind_of}
use Rattle.row_output.specs.Sinks.{HasSinkRows, HoldsLittle, purpose_of}
use Rattle.row_output.proofs.row_output.put_all.Given as goal

-- The sink has the rows so far, and those that are left stand where they stood.
abbrev pub invariant-loop-index : goal.invariant-loop-index
invariant-loop-index g l = record {
  purpose : purpose_of l.sink ≡ purpose_of l.initial.sink;
  behind : drop l.index l.rows ≡ drop l.index l.initial.rows;
  size : length l.rows ≡ length l.initial.rows;
  has : (start : _) → HasSinkRows (kind_of g.G.Stage.state g.G.Stage.ended) l.initial.sink start [] l.initial.stage → HasSinkRows (kind_of g.G.Stage.state g.G.Stage.ended) l.sink start (take l.index l.initial.rows) l.stage;
  little : 0 < l.index → (start : _) → HasSinkRows (kind_of g.G.Stage.state g.G.Stage.ended) l.initial.sink start [] l.initial.stage → HoldsLittle l.sink;
  goes : g.G.Stage.goes l.initial.stage l.stage;
  later : g.G.Stage.faults l.initial.stage ≤ g.G.Stage.faults l.stage;
}
