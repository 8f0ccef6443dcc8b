use Rattle.std.proofs.Common.{◌≡◌, ◌++◌, take, map}
use Rattle.std.specs.List.{join_with_byte}
use Rattle.text_formats.specs.Styles.{field_of}
use Rattle.text_formats.proofs.fields.add_names.Given as goal

abbrev pub invariant-loop-index : goal.invariant-loop-index
invariant-loop-index l = l.to ≡ l.initial.to ++ join_with_byte l.style.separator (map (field_of l.style) (take l.index l.name-items))
