use Rattle.std.proofs.Common.{◌≡◌, ◌∷◌, length}
use Rattle.text_formats.specs.Widths.{AreWidths}
use Rattle.text_formats.proofs.table.note_widths.Given as goal

abbrev pub invariant-loop-column : goal.invariant-loop-column
invariant-loop-column l = record { count : length l.widths ≡ l.column; noted : AreWidths (l.title ∷ l.rows) l.widths }
