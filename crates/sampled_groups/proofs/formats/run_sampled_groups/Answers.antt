use Rattle.std.proofs.Common.{subst, IfOk, IfErr, OnOk, ◌≡◌, ◌++◌, true, map}
use Rattle.any_format.specs.Wanted.{wanted_text}
use Rattle.row_output.specs.Sinks.{files_for}
use Rattle.sampled_run.specs.Finishes.{asked_by}
use Rattle.lp_model.specs.Outside.{Told}
use Rattle.query_tree.specs.Views.{query_of}
use Rattle.log_reading.specs.Page.{IsTooMany}
use Rattle.log_reading.specs.Spans.{AreKept, spans_bad_lines, took_of}
use Rattle.delimited_input.specs.declared.options.DelimitedOptions.{DelimitedOptions}
use Rattle.delimited_input.specs.Lines.{delimited_lines}
use Rattle.text_output.specs.Output.{kind_of}
use Rattle.query_run.specs.declared.executing.Written.{Written}
use Rattle.sampled_run.specs.declared.fault.SampleFault.{SampleFault}
use Rattle.sampled_groups.specs.Rules.{GroupRules, group_rules_of}
use Rattle.column_kinds.specs.Past.{nothing}
use Rattle.column_kinds.specs.Spans.{past_behind, past_of}
use Rattle.sampled_run.specs.Ran.{OnBadOne}
use Rattle.sampled_groups.specs.InTurn.{ComesInTurn}
use Rattle.sampled_groups.specs.Ran.{IsSampled, IsStoppedBy}
use Rattle.column_kinds.proofs.Answered.{if_ok, if_err}
use Rattle.column_kinds.proofs.Delimited.{delimited_sets_once}
use Rattle.sampled_groups.proofs.Ran.{ran_told, stopped_told, turn_by_spans}
use Rattle.sampled_groups.proofs.formats.run_sampled_groups.Goals as goal

pub returns-clause-ran : goal.returns-clause-ran
returns-clause-ran g c =
    let told = g.L.LogSource.folder c.sample_reader.new.logs in
    let u = c.args.stage.now in
    let v = c.sample_reader.new.stage in
    let spans = c.args.spans.now in
    let rules : GroupRules = group_rules_of c.args.limit c.args.pattern.now c.args.moment.seconds (query_of c.args.query.now) (asked_by (files_for c.args.into) (wanted_text c.args.wanted c.args.moment.seconds) (query_of c.args.query.now)) in
    let Behind : DelimitedOptions → Written → Type 0 = λ options run. Told told (λ folder. AreKept (delimited_lines options) c.args.waits spans folder
    → IsSampled (kind_of g.G.Stage.state g.G.Stage.ended) rules u (past_behind (delimited_lines options) c.args.waits folder nothing spans) (delimited_lines options) c.args.waits folder spans run v) in
    let given = subst (λ (options : DelimitedOptions). IfOk c.sample_reader.result (Behind options)) c.in-Ok.ensures.ok c.sample_reader.ensures.ran in
    if_ok (Behind c.args.options)
    (λ (run : Written). Told told (λ folder. AreKept (delimited_lines c.args.options) c.args.waits spans folder
    → IsSampled (kind_of g.G.Stage.state g.G.Stage.ended) rules u (past_of (delimited_lines c.args.options) c.args.waits folder spans) (delimited_lines c.args.options) c.args.waits folder spans run v))
    c.sample_reader.result
    (λ run. ran_told (kind_of g.G.Stage.state g.G.Stage.ended) rules (delimited_lines c.args.options) c.args.waits (delimited_sets_once c.args.options) told spans u v run)
    given

pub returns-clause-stopped : goal.returns-clause-stopped
returns-clause-stopped g c =
    let told = g.L.LogSource.folder c.sample_reader.new.logs in
    let u = c.args.stage.now in
    let v = c.sample_reader.new.stage in
    let spans = c.args.spans.now in
    let rules : GroupRules = group_rules_of c.args.limit c.args.pattern.now c.args.moment.seconds (query_of c.args.query.now) (asked_by (files_for c.args.into) (wanted_text c.args.wanted c.args.moment.seconds) (query_of c.args.query.now)) in
    let Behind : DelimitedOptions → SampleFault → Type 0 = λ options fault. Told told (λ folder. AreKept (delimited_lines options) c.args.waits spans folder
    → IsStoppedBy (kind_of g.G.Stage.state g.G.Stage.ended) rules u (past_behind (delimited_lines options) c.args.waits folder nothing spans) fault v) in
    let given = subst (λ (options : DelimitedOptions). IfErr c.sample_reader.result (Behind options)) c.in-Ok.ensures.ok c.sample_reader.ensures.stopped in
    if_err (Behind c.args.options)
    (λ (fault : SampleFault). Told told (λ folder. AreKept (delimited_lines c.args.options) c.args.waits spans folder
    → IsStoppedBy (kind_of g.G.Stage.state g.G.Stage.ended) rules u (past_of (delimited_lines c.args.options) c.args.waits folder spans) fault v))
    c.sample_reader.result
    (λ fault. stopped_told (kind_of g.G.Stage.state g.G.Stage.ended) rules (delimited_lines c.args.options) c.args.waits (delimited_sets_once c.args.options) told spans u v fault)
    given

pub returns-clause-too_many : goal.returns-clause-too_many
returns-clause-too_many g c =
    let told = g.L.LogSource.folder c.sample_reader.new.logs in
    let spans = c.args.spans.now in
    let Of : DelimitedOptions → Type 0 = λ options. IfErr c.sample_reader.result (λ fault. OnBadOne fault (λ line. Told told (λ folder. AreKept (delimited_lines options) c.args.waits spans folder
    → IsTooMany c.args.most_bad 0 (spans_bad_lines (delimited_lines options) c.args.waits folder spans) line))) in
    subst Of c.in-Ok.ensures.ok c.sample_reader.ensures.too_many

pub returns-clause-in_turn : goal.returns-clause-in_turn
returns-clause-in_turn g c =
    let told = g.L.LogSource.folder c.sample_reader.new.logs in
    let u = c.args.stage.now in
    let v = c.sample_reader.new.stage in
    let spans = c.args.spans.now in
    let most_bad = c.args.most_bad in
    let rules : GroupRules = group_rules_of c.args.limit c.args.pattern.now c.args.moment.seconds (query_of c.args.query.now) (asked_by (files_for c.args.into) (wanted_text c.args.wanted c.args.moment.seconds) (query_of c.args.query.now)) in
    let Behind : DelimitedOptions → SampleFault → Type 0 = λ options fault. Told told (λ folder. AreKept (delimited_lines options) c.args.waits spans folder
    → ComesInTurn rules u (past_behind (delimited_lines options) c.args.waits folder nothing spans) most_bad (delimited_lines options) c.args.waits folder spans fault v) in
    let given = subst (λ (options : DelimitedOptions). IfErr c.sample_reader.result (Behind options)) c.in-Ok.ensures.ok c.sample_reader.ensures.in_turn in
    if_err (Behind c.args.options)
    (λ (fault : SampleFault). Told told (λ folder. AreKept (delimited_lines c.args.options) c.args.waits spans folder
    → ComesInTurn rules u (past_of (delimited_lines c.args.options) c.args.waits folder spans) most_bad (delimited_lines c.args.options) c.args.waits folder spans fault v))
    c.sample_reader.result
    (λ fault. turn_by_spans rules (delimited_lines c.args.options) c.args.waits (delimited_sets_once c.args.options) told spans u v most_bad fault)
    given

pub returns-clause-took : goal.returns-clause-took
returns-clause-took g c =
    let told = g.L.LogSource.folder c.sample_reader.new.logs in
    let spans = c.args.spans.now in
    let Of : DelimitedOptions → Type 0 = λ options. OnOk c.sample_reader.result (Told told (λ folder. AreKept (delimited_lines options) c.args.waits spans folder
    → c.sample_reader.new.took ≡ c.args.took.now ++ map (took_of (delimited_lines options) c.args.waits folder) spans)) in
    subst Of c.in-Ok.ensures.ok c.sample_reader.ensures.took
