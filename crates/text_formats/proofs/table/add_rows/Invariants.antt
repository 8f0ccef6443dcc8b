use Rattle.std.proofs.Common.{◌≡◌, ◌++◌, ◌∷◌, take, flat_map}
use Rattle.text_formats.specs.Tables.{row_line}
use Rattle.text_formats.proofs.table.add_rows.Given as goal

abbrev pub invariant-loop-row : goal.invariant-loop-row
invariant-loop-row l = l.to ≡ l.initial.to ++ flat_map (row_line (l.title ∷ l.rows)) (take l.row-index l.rows)
