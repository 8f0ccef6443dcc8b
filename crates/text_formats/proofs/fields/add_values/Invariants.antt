use Rattle.std.proofs.Common.{◌≡◌, ◌++◌, take, map}
use Rattle.std.specs.List.{join_with_byte}
use Rattle.lp_values.specs.Printed.{printed}
use Rattle.text_formats.specs.Styles.{field_of}
use Rattle.text_formats.proofs.fields.add_values.Given as goal

abbrev pub invariant-loop-index : goal.invariant-loop-index
invariant-loop-index l = l.to ≡ l.initial.to ++ join_with_byte l.style.separator (map (λ value. field_of l.style (printed value)) (take l.index l.value-items))
