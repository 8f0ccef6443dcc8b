-- The collector of a subquery's values, behind a sample of its records.
use Rattle.std.specs.Prelude.{◌≡◌, ℕ, ℤ, List, Result, Ok, Err, None, [], ⊤}
use Rattle.grammar.specs.Trees.{Query}
use Rattle.lp_time.specs.declared.piece.Piece.{Piece}
use Rattle.log_reading.specs.Found.{rows_met}
use Rattle.query_tree.specs.Views.{query_of}
use Rattle.query_types.specs.Planned.{Planned, planned_in}
use Rattle.group_planning.specs.Subquery.{subquery_plan_of}
use Rattle.query_types.specs.declared.fault.TypeFault.{TypeFault}
use Rattle.column_kinds.specs.declared.judging.Judged.{Judged}
use Rattle.column_kinds.specs.declared.phase.Gathering.{Gathering}
use Rattle.column_kinds.specs.declared.phase.Phase.{Phase}
use Rattle.column_kinds.specs.declared.phase.Phase.TheVariants as P
use Rattle.column_kinds.specs.declared.phase.Sampled.{Sampled}
use Rattle.column_kinds.specs.Judged.{table_of}
use Rattle.column_kinds.specs.Sampling.{SampleKind, kind_of}
use Rattle.column_kinds.specs.Sampling.{Rules as SampleRules}
use Rattle.sampled_run.specs.Kinds.{picks_of}
use Rattle.sampled_table.specs.declared.picking.SampledPicker.{SampledPicker}
use Rattle.list_run.specs.Collected.{Collects}
use Rattle.list_run.specs.Gathering.{Remembered}
use Rattle.list_run.specs.Rules.{Rules, rules_of}
use Rattle.list_run.specs.declared.collector.Collector.{Collector}
use Rattle.list_run.specs.declared.list_maker.ListMaker.{ListMaker}

-- the plan of the maker's query over these columns, or its fault
abbrev pub plan_over : {S : Type 0} → ListMaker S → Judged → Result Planned TypeFault
plan_over maker told = subquery_plan_of (table_of told) maker.moment.seconds (query_of maker.query.now)

-- this collector is made for these columns: it goes by the plan over them
pub record IsMade {S : Type 0} (maker : ListMaker S) (told : Judged) (collector : Collector SampledPicker) : Type 0 where
  pub planned : plan_over maker told ≡ Ok (planned_in collector.picker.ready.plan)
  pub told_is : collector.picker.told ≡ told
  pub pattern : collector.picker.pattern.now ≡ maker.pattern.now

-- none is made, since the query has no plan over these columns
abbrev pub IsUnplanned : {S : Type 0} → ListMaker S → Judged → TypeFault → Type 0
IsUnplanned maker told fault = plan_over maker told ≡ Err fault

-- a collector behind a sample
abbrev pub ListSample : Type 0
ListSample = Sampled (ListMaker Remembered) (Collector SampledPicker)

abbrev pub list_kind : SampleKind (ListMaker Remembered) (Collector SampledPicker) Remembered
list_kind = kind_of
    (λ maker told collector. IsMade maker told collector)
    (λ maker told fault. IsUnplanned maker told fault)
    (λ a u mets b v. Collects picks_of a.picker u (rows_met mets) b.picker v)
    (λ a u mets b v. ⊤)

-- the rules of a sample, as those of a subquery
abbrev pub list_rules : SampleRules (ListMaker Remembered) → Rules
list_rules rules = rules_of rules.limit rules.pattern rules.maker.moment.seconds (query_of rules.maker.query.now)

-- the maker reads times as the sample does
abbrev pub Fits : SampleRules (ListMaker Remembered) → Type 0
Fits rules = rules.maker.pattern.now ≡ rules.pattern

-- no record was kept
pub record GathersNone (pattern : List Piece) (moment : ℤ) (query : Query) (gathering : Gathering (ListMaker Remembered)) : Type 0 where
  pub first : gathering.first ≡ None
  pub rows : gathering.rows ≡ []
  pub pattern_is : gathering.maker.pattern.now ≡ pattern
  pub moment_is : gathering.maker.moment.seconds ≡ moment
  pub query_is : query_of gathering.maker.query.now ≡ query

abbrev pub IsFreshIn : {T : Type 0} → List Piece → ℤ → Query → Phase (ListMaker Remembered) T → Type 0
IsFreshIn pattern moment q (P.Gathering gathering) = GathersNone pattern moment q gathering
IsFreshIn pattern moment q (P.Taking taker) = ⊥
IsFreshIn pattern moment q (P.Refused fault) = ⊥
IsFreshIn pattern moment q P.Lost = ⊥

-- a sample that is asked this, before its first record
pub record IsFresh (limit : ℕ) (pattern : List Piece) (moment : ℤ) (query : Query) (sampled : ListSample) : Type 0 where
  pub limit_is : sampled.limit ≡ limit
  pub pattern_is : sampled.pattern.now ≡ pattern
  pub phase : IsFreshIn pattern moment query sampled.phase
