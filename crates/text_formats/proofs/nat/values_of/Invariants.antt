use Rattle.std.proofs.Common.{◌≡◌, take, map}
use Rattle.lp_values.specs.declared.value.Value.TheVariants.{Text}
use Rattle.text_formats.proofs.nat.values_of.Given as goal

abbrev pub invariant-loop-name : goal.invariant-loop-name
invariant-loop-name l = l.row ≡ map Text (take l.name-index l.name-items)
