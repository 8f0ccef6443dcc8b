use Rattle.std.proofs.Common.{◌≡◌, length, Err, IfOk, IfErr, subst}
use Rattle.std.proofs.lemmas.Result.{IfOk-weaker, IfErr-weaker}
use Rattle.lp_model.specs.Outside.{Told}
use Rattle.delimited_input.specs.declared.options.DelimitedOptions.{DelimitedOptions}
use Rattle.delimited_input.specs.Lines.{delimited_lines}
use Rattle.log_reading.specs.Page.{IsTooMany}
use Rattle.log_reading.specs.Spans.{AreKept, spans_bad, spans_bad_lines}
use Rattle.query_tree.specs.Views.{query_of}
use Rattle.query_types.specs.declared.fault.TypeFault.{TypeFault}
use Rattle.column_kinds.proofs.Delimited.{delimited_sets_once}
use Rattle.column_kinds.specs.Spans.{past_behind, past_of}
use Rattle.sampled_run.proofs.Fresh.{nothing}
use Rattle.list_run.specs.Faults.{OnBad, OnUnplanned}
use Rattle.list_run.specs.Rules.{IsGiven, plan_at, rules_of}
use Rattle.list_run.specs.declared.given.SampledValues.{SampledValues}
use Rattle.list_run.proofs.Sampled.{told_behind, unplanned_so}
use Rattle.list_run.proofs.sampled_formats.gather_sampled.Goals as goal

pub returns-clause-given_values : goal.returns-clause-given_values
returns-clause-given_values g c =
    let told = g.L.LogSource.folder c.sample_reader.new.logs in
    let spans = c.args.spans.now in
    let asked = rules_of c.args.limit c.args.pattern.now c.args.moment.seconds (query_of c.args.query.now) in
    let Of : DelimitedOptions → Type 0 = λ options. IfOk c.sample_reader.result (λ list. Told told (λ folder. AreKept (delimited_lines options) c.args.waits spans folder
    → IsGiven c.args.keep asked (past_behind (delimited_lines options) c.args.waits folder nothing spans) list)) in
    IfOk-weaker c.sample_reader.result _ _ (λ list given. told_behind c.args.keep asked (delimited_lines c.args.options) c.args.waits told spans (delimited_sets_once c.args.options) (λ past. IsGiven c.args.keep asked past list) given)
    (subst Of c.in-Ok.ensures.ok c.sample_reader.ensures.given_values)

pub returns-clause-unplanned : goal.returns-clause-unplanned
returns-clause-unplanned g c =
    let told = g.L.LogSource.folder c.sample_reader.new.logs in
    let spans = c.args.spans.now in
    let asked = rules_of c.args.limit c.args.pattern.now c.args.moment.seconds (query_of c.args.query.now) in
    let Of : DelimitedOptions → Type 0 = λ options. IfErr c.sample_reader.result (OnUnplanned (λ why. Told told (λ folder. AreKept (delimited_lines options) c.args.waits spans folder
    → plan_at asked (past_behind (delimited_lines options) c.args.waits folder nothing spans) ≡ Err why))) in
    let Is : TypeFault → Type 0 = λ why. Told told (λ folder. AreKept (delimited_lines c.args.options) c.args.waits spans folder → plan_at asked (past_of (delimited_lines c.args.options) c.args.waits folder spans) ≡ Err why) in
    IfErr-weaker c.sample_reader.result _ _ (λ fault un. unplanned_so fault _ Is
    (λ why so. told_behind c.args.keep asked (delimited_lines c.args.options) c.args.waits told spans (delimited_sets_once c.args.options) (λ past. plan_at asked past ≡ Err why) so) un)
    (subst Of c.in-Ok.ensures.ok c.sample_reader.ensures.unplanned)

pub returns-clause-bad : goal.returns-clause-bad
returns-clause-bad g c =
    let told = g.L.LogSource.folder c.sample_reader.new.logs in
    let spans = c.args.spans.now in
    let Of : DelimitedOptions → Type 0 = λ options. IfOk c.sample_reader.result (λ (list : SampledValues). Told told (λ folder. AreKept (delimited_lines options) c.args.waits spans folder
    → list.bad ≡ length (spans_bad (delimited_lines options) c.args.waits folder spans))) in
    subst Of c.in-Ok.ensures.ok c.sample_reader.ensures.bad

pub returns-clause-too_many : goal.returns-clause-too_many
returns-clause-too_many g c =
    let told = g.L.LogSource.folder c.sample_reader.new.logs in
    let spans = c.args.spans.now in
    let Of : DelimitedOptions → Type 0 = λ options. IfErr c.sample_reader.result (OnBad (λ line. Told told (λ folder. AreKept (delimited_lines options) c.args.waits spans folder
    → IsTooMany c.args.most_bad 0 (spans_bad_lines (delimited_lines options) c.args.waits folder spans) line))) in
    subst Of c.in-Ok.ensures.ok c.sample_reader.ensures.too_many
