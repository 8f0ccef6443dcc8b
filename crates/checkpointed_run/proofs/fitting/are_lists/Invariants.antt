use Rattle.std.proofs.Common.{All, take}
use Rattle.run_entry.specs.Forms.{IsKeptList}
use Rattle.checkpointed_run.proofs.fitting.are_lists.Given as goal

abbrev pub invariant-loop-list : goal.invariant-loop-list
invariant-loop-list l = All IsKeptList (take l.list-index l.lists)
