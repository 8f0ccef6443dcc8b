use Rattle.std.proofs.Common.{◌≡◌, ◌⊎◌, ◌++◌, [], true, ℕ, map, length, option_map, IfOk, IfErr, OnOk, OnErr, subst, ap, ◌∙◌}
use Rattle.lp_model.specs.Outside.{Told}
use Rattle.lp_model.specs.Reading.{Format}
use Rattle.lp_model.proofs.Growing.{OnlyGrow-refl}
use Rattle.log_reading.specs.Page.{IsWithin}
use Rattle.log_reading.specs.Spans.{AreKept, spans_bad, took_of}
use Rattle.log_reading.proofs.Sizes.{has_room}
use Rattle.text_output.specs.Output.{kind_of}
use Rattle.row_output.specs.Asked.{left_of}
use Rattle.row_output.specs.Kept.{asked_of}
use Rattle.row_output.specs.Rows.{Holds, IsRefused, Stops}
use Rattle.row_output.proofs.Stopping.{none_stops}
use Rattle.query_run.specs.Faults.{OnBad, OnRefusedOutput}
use Rattle.query_run.specs.declared.executing.Written.{Written}
use Rattle.query_types.specs.Conditions.{filter_of}
use Rattle.query_types.specs.declared.plans.Plan.{Plan}
use Rattle.group_planning.specs.Groups.{grouped_in}
use Rattle.input_tables.specs.Tables.{lines_of, readings_of}
use Rattle.plan_rows.specs.Picks.{plan_picks}
use Rattle.row_steps.specs.Grouped.{HasWidth}
use Rattle.row_steps.specs.Widths.{plan_width}
use Rattle.group_run.specs.InTurn.{IsReached}
use Rattle.group_run.proofs.GroupRuns.{OnGroupRows, told_of_all, as_asked}
use Rattle.group_run.proofs.running.group_reader.Goals as goal

pub returns-in_default-clause-grows : goal.returns-in_default-clause-grows
returns-in_default-clause-grows g c = OnlyGrow-refl _

pub returns-in_default-clause-stops : goal.returns-in_default-clause-stops
returns-in_default-clause-stops g c =
    let kind = kind_of g.G.Stage.state g.G.Stage.ended in
    told_of_all (g.L.LogSource.folder c.args.logs.now) c.args.waits c.args.spans.now (λ rows. Stops kind (asked_of c.args.output) c.args.stage.now rows c.args.stage.now) (lines_of c.args.format) (readings_of c.args.format) (grouped_in c.args.plan)
    (λ rows. none_stops kind c.args.output c.args.stage.now rows c.requires.new)

pub group_spans-requires-clause-room : goal.group_spans-requires-clause-room
group_spans-requires-clause-room g c = has_room c.args.spans.now c.requires.spans c.requires.few

pub group_spans-requires-clause-wide : goal.group_spans-requires-clause-wide
group_spans-requires-clause-wide g c =
    let plan = c.in-Ok.picker.ready.plan in
    let condition = option_map filter_of plan.condition in
    let size = ap (λ (plan : Plan). length plan.items) c.in-Ok.ensures.rows ∙ c.requires.wide in
    subst (λ (n : ℕ). HasWidth (plan_picks c.in-Ok.picker.readings plan.items condition) n) size (plan_width c.in-Ok.picker.readings plan.items condition)

pub returns-clause-holds : goal.returns-clause-holds
returns-clause-holds g c =
    let kind = kind_of g.G.Stage.state g.G.Stage.ended in
    as_asked (λ format readings plan. IfOk c.group_spans.result (λ (written : Written). OnGroupRows (g.L.LogSource.folder c.group_spans.new.logs) c.args.waits c.args.spans.now (λ rows. Holds kind (asked_of c.args.output) c.args.stage.now rows written.outputs c.group_spans.new.stage) format readings plan))
    c.args.plan.shape (g.R.LineReader.format c.args.reader.now) (lines_of c.args.format) c.in-Ok.picker.readings (readings_of c.args.format) c.in-Ok.picker.ready.plan c.args.plan.rows c.in-Ok.ready.plan c.args.plan.groups
    c.requires.reads c.in-Ok.ensures.readings c.in-Ok.ensures.rows c.in-Ok.ensures.groups c.group_spans.ensures.holds

pub returns-clause-output : goal.returns-clause-output
returns-clause-output g c =
    as_asked (λ format readings plan. IfOk c.group_spans.result (λ (written : Written). OnGroupRows (g.L.LogSource.folder c.group_spans.new.logs) c.args.waits c.args.spans.now (λ rows. written.counts.output ≡ length (left_of (asked_of c.args.output) rows)) format readings plan))
    c.args.plan.shape (g.R.LineReader.format c.args.reader.now) (lines_of c.args.format) c.in-Ok.picker.readings (readings_of c.args.format) c.in-Ok.picker.ready.plan c.args.plan.rows c.in-Ok.ready.plan c.args.plan.groups
    c.requires.reads c.in-Ok.ensures.readings c.in-Ok.ensures.rows c.in-Ok.ensures.groups c.group_spans.ensures.output

pub returns-clause-stops : goal.returns-clause-stops
returns-clause-stops g c =
    let kind = kind_of g.G.Stage.state g.G.Stage.ended in
    as_asked (λ format readings plan. OnErr c.group_spans.result (OnGroupRows (g.L.LogSource.folder c.group_spans.new.logs) c.args.waits c.args.spans.now (λ rows. Stops kind (asked_of c.args.output) c.args.stage.now rows c.group_spans.new.stage) format readings plan))
    c.args.plan.shape (g.R.LineReader.format c.args.reader.now) (lines_of c.args.format) c.in-Ok.picker.readings (readings_of c.args.format) c.in-Ok.picker.ready.plan c.args.plan.rows c.in-Ok.ready.plan c.args.plan.groups
    c.requires.reads c.in-Ok.ensures.readings c.in-Ok.ensures.rows c.in-Ok.ensures.groups c.group_spans.ensures.stops

pub returns-clause-refused : goal.returns-clause-refused
returns-clause-refused g c =
    as_asked (λ format readings plan. IfErr c.group_spans.result (OnRefusedOutput (λ why. OnGroupRows (g.L.LogSource.folder c.group_spans.new.logs) c.args.waits c.args.spans.now (λ rows. IsRefused (asked_of c.args.output) rows why) format readings plan)))
    c.args.plan.shape (g.R.LineReader.format c.args.reader.now) (lines_of c.args.format) c.in-Ok.picker.readings (readings_of c.args.format) c.in-Ok.picker.ready.plan c.args.plan.rows c.in-Ok.ready.plan c.args.plan.groups
    c.requires.reads c.in-Ok.ensures.readings c.in-Ok.ensures.rows c.in-Ok.ensures.groups c.group_spans.ensures.refused

pub returns-clause-early : goal.returns-clause-early
returns-clause-early g c =
    let Of : Format → Type 0 = λ format. IfErr c.group_spans.result (OnRefusedOutput (λ why. Told (g.L.LogSource.folder c.group_spans.new.logs) (λ folder. AreKept format c.args.waits c.args.spans.now folder
    → IsRefused (asked_of c.args.output) [] why ⊎ IsWithin c.args.most_bad (length (spans_bad format c.args.waits folder c.args.spans.now))))) in
    subst Of c.requires.reads c.group_spans.ensures.early

pub returns-clause-took : goal.returns-clause-took
returns-clause-took g c =
    let Of : Format → Type 0 = λ format. OnOk c.group_spans.result (Told (g.L.LogSource.folder c.group_spans.new.logs) (λ folder. AreKept format c.args.waits c.args.spans.now folder
    → c.group_spans.new.took ≡ c.args.took.now ++ map (took_of format c.args.waits folder) c.args.spans.now)) in
    subst Of c.requires.reads c.group_spans.ensures.took

pub returns-clause-reached : goal.returns-clause-reached
returns-clause-reached g c =
    let Of : Format → Type 0 = λ format. IfErr c.group_spans.result (OnBad (λ line. Told (g.L.LogSource.folder c.group_spans.new.logs) (λ folder. AreKept format c.args.waits c.args.spans.now folder → IsReached c.args.most_bad format c.args.waits folder c.args.spans.now line))) in
    subst Of c.requires.reads c.group_spans.ensures.reached
