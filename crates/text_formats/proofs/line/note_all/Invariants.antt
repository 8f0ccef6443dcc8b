use Rattle.std.proofs.Common.{◌≡◌, take, map}
use Rattle.text_formats.specs.Noted.{texts_in, AreNoted}
use Rattle.text_formats.specs.Tables.{cell_of}
use Rattle.text_formats.proofs.line.note_all.Given as goal

abbrev pub invariant-loop-value : goal.invariant-loop-value
invariant-loop-value l = record { noted : AreNoted l.texts l.cells; texts : texts_in l.texts l.cells ≡ map cell_of (take l.value-index l.value-items) }
