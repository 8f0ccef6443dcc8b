use Rattle.std.proofs.Common.{◌∷◌, pos, take}
use Rattle.line_input.specs.Taken.{slots_of}
use Rattle.lp_values.specs.declared.value.Value.TheVariants as V
use Rattle.plan_rows.specs.Picks.{Put, fields_read}
use Rattle.plan_rows.proofs.row.read_columns.Given as goal

-- The columns so far were put.
abbrev pub invariant-loop-column : goal.invariant-loop-column
invariant-loop-column l = Put (take l.column-index l.column-items) (V.Text l.identity ∷ V.Int (pos l.number) ∷ fields_read l.readings (slots_of l.line l.fields) 0) l.initial.values l.values
