use Rattle.std.proofs.Common.{◌≡◌, ◌∷◌, take}
use Rattle.text_formats.specs.Tables.{width_in}
use Rattle.text_formats.proofs.table.column_width.Given as goal

abbrev pub invariant-loop-row : goal.invariant-loop-row
invariant-loop-row l = l.width ≡ width_in (l.title ∷ take l.row-index l.rows) l.column
