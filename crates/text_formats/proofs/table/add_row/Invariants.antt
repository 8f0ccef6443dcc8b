use Rattle.std.proofs.Common.{◌∷◌}
use Rattle.text_formats.specs.Tables.{filled}
use Rattle.text_formats.proofs.Piecing.{Pieced}
use Rattle.text_formats.proofs.table.add_row.Given as goal

abbrev pub invariant-loop-column : goal.invariant-loop-column
invariant-loop-column l = Pieced (filled (l.title ∷ l.rows)) l.row l.column l.initial.to l.to
