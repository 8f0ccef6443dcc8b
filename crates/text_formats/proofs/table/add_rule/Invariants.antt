use Rattle.std.proofs.Common.{◌∷◌}
use Rattle.text_formats.specs.Tables.{ruled}
use Rattle.text_formats.proofs.Piecing.{Pieced}
use Rattle.text_formats.proofs.table.add_rule.Given as goal

abbrev pub invariant-loop-column : goal.invariant-loop-column
invariant-loop-column l = Pieced (ruled (l.title ∷ l.rows)) l.title l.column l.initial.to l.to
