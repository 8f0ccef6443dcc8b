use Rattle.std.proofs.Common.{◌≡◌, ◌≤◌, ◌-◌, List, ◌++◌, length}
use Rattle.order_top.specs.Finish.{Row}
use Rattle.text_output.specs.Output.{kind_of}
use Rattle.row_output.specs.declared.file_output.FileOutput.{FileOutput}
use Rattle.row_output.specs.FileRows.{HasFirst, making_of}
use Rattle.row_output.proofs.files.FileOutputs.open_all.Given as goal

-- The first of the names have their outputs, one more each turn.
abbrev pub invariant-loop-self : goal.invariant-loop-self
invariant-loop-self g l = record {
  outputs : l.self.outputs ≡ l.initial.self.outputs;
  stars : l.self.stars ≡ l.initial.self.stars;
  making : making_of l.self ≡ making_of l.initial.self;
  front : (more : List FileOutput) × (l.self.files.items ≡ l.initial.self.files.items ++ more);
  first : (start : _) (rows : List Row) → HasFirst (kind_of g.G.Stage.state g.G.Stage.ended) l.initial.self start rows l.initial.stage → HasFirst (kind_of g.G.Stage.state g.G.Stage.ended) l.self start rows l.stage;
  goes : g.G.Stage.goes l.initial.stage l.stage;
  later : g.G.Stage.faults l.initial.stage ≤ g.G.Stage.faults l.stage;
}

abbrev pub decreases-loop-self : goal.decreases-loop-self
decreases-loop-self g l = length l.self.outputs.names - length l.self.files.items
