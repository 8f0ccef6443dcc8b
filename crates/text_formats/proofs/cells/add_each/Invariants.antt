use Rattle.std.proofs.Common.{◌≡◌, ◌++◌, take, map}
use Rattle.text_formats.specs.Tables.{shown_byte}
use Rattle.text_formats.proofs.cells.add_each.Given as goal

abbrev pub invariant-loop-byte : goal.invariant-loop-byte
invariant-loop-byte l = l.to ≡ l.initial.to ++ map shown_byte (take l.byte-index l.text)
