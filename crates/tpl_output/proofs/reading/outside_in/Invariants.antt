use Rattle.std.proofs.Common.{◌≡◌, ◌+◌, drop}
use Rattle.tpl_output.specs.Sections.{outside_from}
use Rattle.tpl_output.proofs.reading.outside_in.Given as goal

abbrev pub invariant-loop-index : goal.invariant-loop-index
invariant-loop-index l = outside_from l.from l.part ≡ outside_from (l.from + l.index) (drop l.index l.part)
