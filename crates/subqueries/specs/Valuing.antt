-- The values of a subquery's expression over spans.
use Rattle.std.specs.Prelude.{◌≡◌, ℤ, Bool, List, length, Option, Ok, ⊤}
use Rattle.grammar.specs.Trees.{Query}
use Rattle.lp_model.specs.Outside.{Folder, Told}
use Rattle.lp_time.specs.declared.piece.Piece.{Piece}
use Rattle.delimited_input.specs.Separators.{IsNoSeparator}
use Rattle.execution.specs.declared.formats.LogFormat.{LogFormat}
use Rattle.execution.specs.declared.formats.LogFormat.TheVariants as F
use Rattle.execution.specs.Executed.{rows_in}
use Rattle.execution.specs.Formats.{lines_in}
use Rattle.execution.specs.Plans.{of_rows}
use Rattle.group_planning.specs.Subquery.{subquery_plan_of}
use Rattle.in_set.specs.Facts.{facts_of}
use Rattle.list_run.specs.declared.fault.ListFault.{ListFault}
use Rattle.list_run.specs.declared.fault.ListFault.TheVariants as L
use Rattle.list_run.specs.declared.given.SampledValues.{SampledValues}
use Rattle.list_run.specs.declared.keep.Keep.{Keep}
use Rattle.list_run.specs.Keeping.{kept_values}
use Rattle.list_run.specs.Lists.{values_of}
use Rattle.list_run.specs.Rules.{kind_first}
use Rattle.log_reading.specs.declared.span.Span.{Span}
use Rattle.log_reading.specs.Spans.{AreKept, spans_bad}
use Rattle.query_types.specs.Planned.{Planned}
use Rattle.query_types.specs.declared.fault.TypeFault.{TypeFault}
use Rattle.query_types.specs.declared.fault.TypeFault.TheVariants as T
use Rattle.query_types.specs.declared.table.TableColumns.{TableColumns}

-- a byte may part the fields of the format
abbrev pub HasSeparator : LogFormat → Type 0
HasSeparator (F.Tabled format) = ⊤
HasSeparator (F.Sampled options limit) = ¬ IsNoSeparator options.separator

-- the values of a plan's rows of all records, what is kept of them, and the bad lines
pub record HasValues (format : LogFormat) (waits : Bool) (keep : Keep) (pattern : List Piece) (plan : Planned) (list : SampledValues) (spans : List Span) (folder : Folder) : Type 0 where
  pub values : list.values ≡ facts_of (values_of (rows_in format waits pattern (of_rows plan) folder spans))
  pub kept : list.kept ≡ kept_values keep (values_of (rows_in format waits pattern (of_rows plan) folder spans))
  pub bad : list.bad ≡ length (spans_bad (lines_in format) waits folder spans)

-- those of the subquery's plan over a table
pub record GivesValues (format : LogFormat) (waits : Bool) (keep : Keep) (pattern : List Piece) (told : Option Folder) (moment : ℤ) (q : Query) (list : SampledValues) (spans : List Span) (table : TableColumns) : Type 0 where
  pub plan : Planned
  pub is_planned : subquery_plan_of table moment q ≡ Ok plan
  pub kind : list.kind ≡ kind_first plan.kinds
  pub has : Told told (λ folder. AreKept (lines_in format) waits spans folder → HasValues format waits keep pattern plan list spans folder)

-- why a plan isn't made
abbrev pub unplanned : TypeFault → ListFault
unplanned (T.UnknownField at) = L.Plan (T.UnknownField at)
unplanned (T.UnknownFunction at) = L.Plan (T.UnknownFunction at)
unplanned (T.KindMismatch at) = L.Plan (T.KindMismatch at)
unplanned (T.WrongArity at) = L.Plan (T.WrongArity at)
unplanned (T.TooFewColumns at) = L.Plan (T.TooFewColumns at)
unplanned (T.BadPattern at) = L.Plan (T.BadPattern at)
unplanned (T.NotInSelect at) = L.Plan (T.NotInSelect at)
unplanned (T.NotGrouped at) = L.Plan (T.NotGrouped at)
unplanned (T.NestedAggregate at) = L.Plan (T.NestedAggregate at)
unplanned (T.StarWithGroups at) = L.Plan (T.StarWithGroups at)
unplanned T.Memory = L.Memory
