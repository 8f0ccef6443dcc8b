use Rattle.std.proofs.Common.{◌≡◌, ◌++◌, take, map}
use Rattle.text_formats.specs.Styles.{kept_byte}
use Rattle.text_formats.proofs.fields.add_kept.Given as goal

abbrev pub invariant-loop-byte : goal.invariant-loop-byte
invariant-loop-byte l = l.to ≡ l.initial.to ++ map (kept_byte l.style) (take l.byte-index l.field)
