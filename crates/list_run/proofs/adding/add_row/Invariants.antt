use Rattle.std.proofs.Common.{◌≡◌, drop, fold, length}
use Rattle.list_run.specs.Gathering.{remembering}
use Rattle.list_run.proofs.adding.add_row.Given as goal

-- what is left of the row, gathered behind what was gathered, gives the whole
abbrev pub invariant-loop-index : goal.invariant-loop-index
invariant-loop-index l = record {
  whole : fold remembering l.gathered (drop l.index l.row) ≡ fold remembering l.initial.gathered l.initial.row;
  size : length l.row ≡ length l.initial.row;
}
