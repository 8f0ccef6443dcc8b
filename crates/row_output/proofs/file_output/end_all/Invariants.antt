use Rattle.std.proofs.Common.{◌≡◌, ◌≤◌, ℕ, List, drop, length}
use Rattle.multiplex.proofs.Distinct.{Differ}
use Rattle.order_top.specs.Finish.{Row}
use Rattle.text_output.specs.Output.{kind_of}
use Rattle.row_output.specs.Asked.{Files}
use Rattle.row_output.specs.FileTexts.{Making, AreUnderWay, AreEnding}
use Rattle.row_output.proofs.file_output.end_all.Given as goal

-- The outputs so far are ended, and those that are left stand where they stood.
abbrev pub invariant-loop-index : goal.invariant-loop-index
invariant-loop-index g l = record {
  ending : (asked : Files) (making : Making) (start : _) (rows_of : List ℕ → List Row) (names : List (List ℕ)) (texts : ℕ) → asked.mode ≡ making.mode → Differ names
      → AreUnderWay (kind_of g.G.Stage.state g.G.Stage.ended) making rows_of names start l.initial.files.items texts l.initial.stage
      → AreEnding (kind_of g.G.Stage.state g.G.Stage.ended) asked making start rows_of names l.initial.files.items (drop l.index l.initial.files.items) l.outputs l.stage;
  behind : drop l.index l.files.items ≡ drop l.index l.initial.files.items;
  size : length l.files.items ≡ length l.initial.files.items;
  goes : g.G.Stage.goes l.initial.stage l.stage;
  later : g.G.Stage.faults l.initial.stage ≤ g.G.Stage.faults l.stage;
}
