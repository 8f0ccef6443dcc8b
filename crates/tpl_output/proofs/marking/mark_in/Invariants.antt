use Rattle.std.proofs.Common.{◌≡◌, drop}
use Rattle.tpl_output.specs.Marks.{mark_from}
use Rattle.tpl_output.proofs.marking.mark_in.Given as goal

abbrev pub invariant-loop-at : goal.invariant-loop-at
invariant-loop-at l = mark_from l.names l.body l.text 0 l.text ≡ mark_from l.names l.body l.text l.at (drop l.at l.text)
