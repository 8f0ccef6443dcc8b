-- A sample with a writer behind it, and the rules of a run in those of its sample.
use Rattle.std.specs.Prelude.{◌≡◌, List, Option, option_map}
use Rattle.lp_values.specs.declared.value.Value.{Value}
use Rattle.log_reading.specs.Found.{Found, rows_met}
use Rattle.text_output.specs.Output.{StageKind}
use Rattle.query_run.specs.Writer.{Writes, Halts}
use Rattle.query_run.specs.declared.writer.Writer.{Writer}
use Rattle.query_tree.specs.Views.{query_of}
use Rattle.query_types.specs.Conditions.{filter_of}
use Rattle.column_kinds.specs.Sampling.{SampleKind, kind_of}
use Rattle.column_kinds.specs.Sampling.{Rules as SampleRules}
use Rattle.sampled_table.specs.declared.picking.SampledPicker.{SampledPicker}
use Rattle.sampled_table.specs.Picks.{sampled_picks}
use Rattle.sampled_run.specs.declared.row_maker.RowMaker.{RowMaker}
use Rattle.sampled_run.specs.Made.{IsMade, IsUnplanned, asked_in}
use Rattle.sampled_run.specs.Rules.{Rules, rules_of}

-- what a picker makes of a record
abbrev pub picks_of : SampledPicker → Found → Option (List Value)
picks_of picker = sampled_picks picker.pattern.now picker.told picker.ready.plan.items (option_map filter_of picker.ready.plan.condition)

-- a writer behind a sample, to a stage of this kind
abbrev pub writer_kind : {S : Type 0} → StageKind S → SampleKind (RowMaker S) (Writer SampledPicker) S
writer_kind kind = kind_of
    (λ maker told writer. IsMade maker told writer)
    (λ maker told fault. IsUnplanned maker told fault)
    (λ a u mets b v. Writes kind picks_of a u (rows_met mets) b v)
    (λ a u mets b v. Halts kind picks_of a u (rows_met mets) b v)

-- the rules of a run
abbrev pub run_rules : {S : Type 0} → SampleRules (RowMaker S) → Rules
run_rules rules = rules_of rules.limit rules.pattern rules.maker.moment.seconds (query_of rules.maker.query.now) (asked_in rules.maker)

-- the maker reads times as the sample does
abbrev pub Fits : {S : Type 0} → SampleRules (RowMaker S) → Type 0
Fits rules = rules.maker.pattern.now ≡ rules.pattern
