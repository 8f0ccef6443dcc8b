-- The taker of a grouped query's records, over the columns that the logs tell.
use Rattle.std.specs.Prelude.{◌≡◌, List, [], false, None, Result, Ok, Err}
use Rattle.any_format.specs.Wanted.{wanted_text}
use Rattle.lp_time.specs.declared.piece.Piece.{Piece}
use Rattle.query_tree.specs.Views.{query_of}
use Rattle.query_types.specs.Planned.{Planned, planned_in}
use Rattle.query_types.specs.declared.fault.TypeFault.{TypeFault}
use Rattle.group_planning.specs.Groups.{Grouped, GroupPlan, group_plan_of, grouped_in}
use Rattle.group_rollup.specs.Tables.{Holds}
use Rattle.row_output.specs.Asked.{Asked}
use Rattle.row_output.specs.Kept.{IsNew, asked_of}
use Rattle.row_output.specs.Sinks.{files_for}
use Rattle.column_kinds.specs.declared.judging.Judged.{Judged}
use Rattle.column_kinds.specs.Judged.{table_of}
use Rattle.sampled_run.specs.Finishes.{asked_by}
use Rattle.sampled_groups.specs.declared.group_maker.GroupMaker.{GroupMaker}
use Rattle.sampled_groups.specs.declared.group_taker.GroupTaker.{GroupTaker}

-- the plan of the maker's query over these columns, or its fault
abbrev pub plan_over : {S : Type 0} → GroupMaker S → Judged → Result Grouped TypeFault
plan_over maker told = group_plan_of (table_of told) maker.moment.seconds (query_of maker.query.now)

-- what the maker asks of the rows of a plan
abbrev pub asked_in : {S : Type 0} → GroupMaker S → Planned → Asked
asked_in maker = asked_by (files_for maker.into) (wanted_text maker.wanted maker.moment.seconds) (query_of maker.query.now)

-- this taker goes by a plan over these columns, and what is asked of its rows is this: it has no group, no row is put, and no output opened
pub record IsReady (pattern : List Piece) (told : Judged) (plan : GroupPlan) (asked : Asked) (taker : GroupTaker) : Type 0 where
  pub rows : taker.rows.picker.ready.plan ≡ plan.rows
  pub groups : taker.rows.plan.plan ≡ plan.groups
  pub none : Holds plan.shape.keys plan.shape.aggregates plan.shape.rollup taker.rows.groups []
  pub told_is : taker.rows.picker.told ≡ told
  pub pattern_is : taker.rows.picker.pattern.now ≡ pattern
  pub asked_is : asked_of taker.output ≡ asked
  pub new : IsNew taker.output
  pub unopened : taker.opened ≡ false
  pub unrefused : taker.refused ≡ None

-- this taker is made for these columns: it goes by the plan over them
pub record IsMade {S : Type 0} (maker : GroupMaker S) (told : Judged) (taker : GroupTaker) : Type 0 where
  pub plan : GroupPlan
  pub planned : plan_over maker told ≡ Ok (grouped_in plan)
  pub ready : IsReady maker.pattern.now told plan (asked_in maker (planned_in plan.groups)) taker

-- none is made, since the query has no plan over these columns
abbrev pub IsUnplanned : {S : Type 0} → GroupMaker S → Judged → TypeFault → Type 0
IsUnplanned maker told fault = plan_over maker told ≡ Err fault
