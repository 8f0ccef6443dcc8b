use Rattle.std.proofs.Common.{◌≡◌, ◌++◌, drop}
use Rattle.tpl_output.specs.Sections.{tags_from}
use Rattle.tpl_output.proofs.tagging.tags_of.Given as goal

abbrev pub invariant-loop-at : goal.invariant-loop-at
invariant-loop-at l = tags_from 0 l.text ≡ l.tags ++ tags_from l.at (drop l.at l.text)
