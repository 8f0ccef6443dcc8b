-- What a subquery over sampled columns is asked, and what it gives.
use Rattle.std.specs.Prelude.{◌≡◌, ℕ, ℤ, List, Result, Ok, slice_index_or}
use Rattle.grammar.specs.Trees.{Query}
use Rattle.lp_time.specs.declared.piece.Piece.{Piece}
use Rattle.lp_values.specs.declared.kind.Kind.{Kind}
use Rattle.lp_values.specs.declared.kind.Kind.TheVariants as K
use Rattle.in_set.specs.Facts.{facts_of}
use Rattle.query_types.specs.declared.fault.TypeFault.{TypeFault}
use Rattle.query_types.specs.Planned.{Planned}
use Rattle.group_planning.specs.Subquery.{subquery_plan_of}
use Rattle.column_kinds.specs.declared.judging.Judged.{Judged}
use Rattle.column_kinds.specs.Judged.{table_of}
use Rattle.column_kinds.specs.Past.{Past}
use Rattle.column_kinds.specs.Past.{told_at as told_from}
use Rattle.sampled_run.specs.Rules.{rows_with}
use Rattle.list_run.specs.Keeping.{kept_values}
use Rattle.list_run.specs.Lists.{values_of}
use Rattle.list_run.specs.declared.given.SampledValues.{SampledValues}
use Rattle.list_run.specs.declared.keep.Keep.{Keep}

-- what it is asked: from how many records kinds are judged, how times are read, the moment and the query
pub record Rules : Type 0 where
  pub limit : ℕ
  pub pattern : List Piece
  pub moment : ℤ
  pub query : Query

abbrev pub rules_of : ℕ → List Piece → ℤ → Query → Rules
rules_of limit pattern moment q = record { limit = limit; pattern = pattern; moment = moment; query = q }

-- the columns that the records tell
abbrev pub told_at : Rules → Past → Judged
told_at rules past = told_from rules.limit rules.pattern past

-- the plan over the table of these columns, or its fault
abbrev pub plan_at : Rules → Past → Result Planned TypeFault
plan_at rules past = subquery_plan_of (table_of (told_at rules past)) rules.moment rules.query

-- the kind of the first of some columns; of none it is any
abbrev pub kind_first : List Kind → Kind
kind_first kinds = slice_index_or kinds 0 K.Any

-- the values of the plan's rows of all records, what is kept of them, and their kind
pub record IsGiven (keep : Keep) (rules : Rules) (past : Past) (list : SampledValues) : Type 0 where
  pub plan : Planned
  pub planned : plan_at rules past ≡ Ok plan
  pub values : list.values ≡ facts_of (values_of (rows_with rules.pattern (told_at rules past) plan past.founds))
  pub kept : list.kept ≡ kept_values keep (values_of (rows_with rules.pattern (told_at rules past) plan past.founds))
  pub kind : list.kind ≡ kind_first plan.kinds
