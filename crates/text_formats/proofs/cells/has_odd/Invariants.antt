use Rattle.std.proofs.Common.{◌≡◌, take}
use Rattle.std.specs.List.{list_any}
use Rattle.text_formats.specs.Noted.{is_odd}
use Rattle.text_formats.proofs.cells.has_odd.Given as goal

abbrev pub invariant-loop-byte : goal.invariant-loop-byte
invariant-loop-byte l = l.found ≡ list_any is_odd (take l.byte-index l.text)
