-- A sample with a taker of groups behind it, and the rules of a run in those of its sample.
use Rattle.std.specs.Prelude.{◌≡◌}
use Rattle.log_reading.specs.Found.{rows_met}
use Rattle.text_output.specs.Output.{StageKind}
use Rattle.query_tree.specs.Views.{query_of}
use Rattle.column_kinds.specs.Sampling.{SampleKind, kind_of}
use Rattle.column_kinds.specs.Sampling.{Rules as SampleRules}
use Rattle.sampled_groups.specs.declared.group_maker.GroupMaker.{GroupMaker}
use Rattle.sampled_groups.specs.declared.group_taker.GroupTaker.{GroupTaker}
use Rattle.sampled_groups.specs.Made.{IsMade, IsUnplanned, asked_in}
use Rattle.sampled_groups.specs.Rules.{GroupRules, group_rules_of}
use Rattle.sampled_groups.specs.Taking.{StopsGroups, TakesGroups}

-- a taker of groups behind a sample, to a stage of this kind
abbrev pub group_kind : {S : Type 0} → StageKind S → SampleKind (GroupMaker S) GroupTaker S
group_kind kind = kind_of
    (λ maker told taker. IsMade maker told taker)
    (λ maker told fault. IsUnplanned maker told fault)
    (λ a u mets b v. TakesGroups kind a u (rows_met mets) b v)
    (λ a u mets b v. StopsGroups kind a u b v)

-- the rules of a run
abbrev pub run_rules : {S : Type 0} → SampleRules (GroupMaker S) → GroupRules
run_rules rules = group_rules_of rules.limit rules.pattern rules.maker.moment.seconds (query_of rules.maker.query.now) (asked_in rules.maker)

-- the maker reads times as the sample does
abbrev pub Fits : {S : Type 0} → SampleRules (GroupMaker S) → Type 0
Fits rules = rules.maker.pattern.now ≡ rules.pattern
