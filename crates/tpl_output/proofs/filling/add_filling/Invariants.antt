use Rattle.std.proofs.Common.{◌≡◌, ◌++◌, take, flat_map}
use Rattle.tpl_output.specs.Tpl.{part_text}
use Rattle.tpl_output.proofs.filling.add_filling.Given as goal

abbrev pub invariant-loop-part : goal.invariant-loop-part
invariant-loop-part l = l.to ≡ l.initial.to ++ flat_map (part_text l.values) (take l.part-index l.part-items)
