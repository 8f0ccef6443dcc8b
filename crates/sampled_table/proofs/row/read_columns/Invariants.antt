use Rattle.std.proofs.Common.{take}
use Rattle.line_input.specs.Taken.{slots_of}
use Rattle.plan_rows.specs.Picks.{Put}
use Rattle.sampled_table.specs.Picks.{row_of}
use Rattle.sampled_table.proofs.row.read_columns.Given as goal

-- The columns so far were put.
abbrev pub invariant-loop-column : goal.invariant-loop-column
invariant-loop-column l =
    Put (take l.column-index l.column-items) (row_of l.pattern l.told (record { identity = l.identity; row = record { number = l.number; slots = slots_of l.line l.fields; columns = l.own } })) l.initial.values l.values
