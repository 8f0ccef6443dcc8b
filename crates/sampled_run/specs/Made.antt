-- The writer of a query's rows over the columns that the logs tell.
use Rattle.std.specs.Prelude.{◌≡◌, List, Result, Ok, Err, None, false}
use Rattle.any_format.specs.Wanted.{wanted_text}
use Rattle.query_run.specs.declared.writer.Writer.{Writer}
use Rattle.query_tree.specs.Views.{query_of}
use Rattle.query_types.specs.Planned.{Planned, plan_of, planned_in}
use Rattle.query_types.specs.declared.fault.TypeFault.{TypeFault}
use Rattle.row_output.specs.Asked.{Asked}
use Rattle.row_output.specs.Kept.{IsNew, asked_of}
use Rattle.row_output.specs.Sinks.{files_for}
use Rattle.column_kinds.specs.declared.judging.Judged.{Judged}
use Rattle.column_kinds.specs.Judged.{table_of}
use Rattle.sampled_table.specs.declared.picking.SampledPicker.{SampledPicker}
use Rattle.sampled_run.specs.declared.row_maker.RowMaker.{RowMaker}
use Rattle.sampled_run.specs.Finishes.{asked_by}

-- the plan of the maker's query over these columns, or its fault
abbrev pub plan_over : {S : Type 0} → RowMaker S → Judged → Result Planned TypeFault
plan_over maker told = plan_of (table_of told) maker.moment.seconds (query_of maker.query.now)

-- what the maker asks of the rows of a plan
abbrev pub asked_in : {S : Type 0} → RowMaker S → Planned → Asked
asked_in maker = asked_by (files_for maker.into) (wanted_text maker.wanted maker.moment.seconds) (query_of maker.query.now)

-- this writer is made for these columns: it goes by the plan over them, no row is put, and no output opened
pub record IsMade {S : Type 0} (maker : RowMaker S) (told : Judged) (writer : Writer SampledPicker) : Type 0 where
  pub planned : plan_over maker told ≡ Ok (planned_in writer.picker.ready.plan)
  pub told_is : writer.picker.told ≡ told
  pub pattern : writer.picker.pattern.now ≡ maker.pattern.now
  pub asked : asked_of writer.output ≡ asked_in maker (planned_in writer.picker.ready.plan)
  pub new : IsNew writer.output
  pub refused : writer.refused ≡ None
  pub opened : writer.opened ≡ false

-- none is made, since the query has no plan over these columns
abbrev pub IsUnplanned : {S : Type 0} → RowMaker S → Judged → TypeFault → Type 0
IsUnplanned maker told fault = plan_over maker told ≡ Err fault
