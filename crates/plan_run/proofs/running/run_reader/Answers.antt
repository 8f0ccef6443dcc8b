use Rattle.std.proofs.Common.{◌≡◌, ◌++◌, true, map, length, IfOk, IfErr, OnOk, OnErr, inl, refl, subst}
use Rattle.lp_model.specs.Outside.{Told}
use Rattle.lp_model.specs.Reading.{Format}
use Rattle.lp_model.proofs.Growing.{OnlyGrow-refl}
use Rattle.log_reading.specs.Page.{IsTooMany}
use Rattle.log_reading.specs.Spans.{AreKept, spans_bad_lines, took_of}
use Rattle.log_reading.proofs.Sizes.{has_room}
use Rattle.text_output.specs.Output.{kind_of}
use Rattle.row_output.specs.Asked.{left_of}
use Rattle.row_output.specs.Kept.{asked_of}
use Rattle.row_output.specs.Rows.{Holds, IsRefused, Stops}
use Rattle.row_output.proofs.Stopping.{none_stops}
use Rattle.plan_rows.specs.Picks.{plan_picks}
use Rattle.query_run.specs.Ahead.{GoesAhead}
use Rattle.query_run.specs.Faults.{OnBad, OnRefusedOutput}
use Rattle.query_run.specs.InTurn.{BadInTurn, RefusedInTurn}
use Rattle.query_run.specs.Rows.{picked}
use Rattle.query_run.specs.declared.executing.Written.{Written}
use Rattle.query_types.specs.Planned.{planned_in}
use Rattle.input_tables.specs.Tables.{lines_of, readings_of}
use Rattle.plan_run.proofs.Runs.{OnRows, told_all, as_asked}
use Rattle.plan_run.proofs.running.run_reader.Goals as goal

pub write_spans-requires-clause-room : goal.write_spans-requires-clause-room
write_spans-requires-clause-room g c = has_room c.args.spans.now c.requires.spans c.requires.few

pub returns-in_default-clause-grows : goal.returns-in_default-clause-grows
returns-in_default-clause-grows g c = OnlyGrow-refl _

pub returns-in_default-clause-stops : goal.returns-in_default-clause-stops
returns-in_default-clause-stops g c =
    let kind = kind_of g.G.Stage.state g.G.Stage.ended in
    told_all (g.L.LogSource.folder c.args.logs.now) c.args.waits c.args.spans.now (λ rows. Stops kind (asked_of c.args.output) c.args.stage.now rows c.args.stage.now) (lines_of c.args.format) (readings_of c.args.format) (planned_in c.args.plan)
    (λ rows. none_stops kind c.args.output c.args.stage.now rows c.requires.new)

pub returns-clause-holds : goal.returns-clause-holds
returns-clause-holds g c =
    let kind = kind_of g.G.Stage.state g.G.Stage.ended in
    as_asked (λ format readings plan. IfOk c.write_spans.result (λ (written : Written). OnRows (g.L.LogSource.folder c.write_spans.new.logs) c.args.waits c.args.spans.now (λ rows. Holds kind (asked_of c.args.output) c.args.stage.now rows written.outputs c.write_spans.new.stage) format readings plan))
    (g.R.LineReader.format c.args.reader.now) (lines_of c.args.format) c.in-Ok.picker.readings (readings_of c.args.format) c.in-Ok.picker.ready.plan c.args.plan c.requires.reads c.in-Ok.ensures.readings c.in-Ok.ensures.plan c.write_spans.ensures.holds

pub returns-clause-output : goal.returns-clause-output
returns-clause-output g c =
    as_asked (λ format readings plan. IfOk c.write_spans.result (λ (written : Written). OnRows (g.L.LogSource.folder c.write_spans.new.logs) c.args.waits c.args.spans.now (λ rows. written.counts.output ≡ length (left_of (asked_of c.args.output) rows)) format readings plan))
    (g.R.LineReader.format c.args.reader.now) (lines_of c.args.format) c.in-Ok.picker.readings (readings_of c.args.format) c.in-Ok.picker.ready.plan c.args.plan c.requires.reads c.in-Ok.ensures.readings c.in-Ok.ensures.plan c.write_spans.ensures.output

pub returns-clause-stops : goal.returns-clause-stops
returns-clause-stops g c =
    let kind = kind_of g.G.Stage.state g.G.Stage.ended in
    as_asked (λ format readings plan. OnErr c.write_spans.result (OnRows (g.L.LogSource.folder c.write_spans.new.logs) c.args.waits c.args.spans.now (λ rows. Stops kind (asked_of c.args.output) c.args.stage.now rows c.write_spans.new.stage) format readings plan))
    (g.R.LineReader.format c.args.reader.now) (lines_of c.args.format) c.in-Ok.picker.readings (readings_of c.args.format) c.in-Ok.picker.ready.plan c.args.plan c.requires.reads c.in-Ok.ensures.readings c.in-Ok.ensures.plan c.write_spans.ensures.stops

pub returns-clause-refused : goal.returns-clause-refused
returns-clause-refused g c =
    as_asked (λ format readings plan. IfErr c.write_spans.result (OnRefusedOutput (λ why. OnRows (g.L.LogSource.folder c.write_spans.new.logs) c.args.waits c.args.spans.now (λ rows. IsRefused (asked_of c.args.output) rows why) format readings plan)))
    (g.R.LineReader.format c.args.reader.now) (lines_of c.args.format) c.in-Ok.picker.readings (readings_of c.args.format) c.in-Ok.picker.ready.plan c.args.plan c.requires.reads c.in-Ok.ensures.readings c.in-Ok.ensures.plan c.write_spans.ensures.refused

pub returns-clause-in_turn : goal.returns-clause-in_turn
returns-clause-in_turn g c =
    as_asked (λ format readings plan. IfErr c.write_spans.result (OnRefusedOutput (λ why. Told (g.L.LogSource.folder c.write_spans.new.logs) (λ folder. AreKept format c.args.waits c.args.spans.now folder
    → RefusedInTurn (asked_of c.args.output) (picked (plan_picks readings plan.items plan.condition)) c.args.most_bad 0 format c.args.waits folder c.args.spans.now why))))
    (g.R.LineReader.format c.args.reader.now) (lines_of c.args.format) c.in-Ok.picker.readings (readings_of c.args.format) c.in-Ok.picker.ready.plan c.args.plan c.requires.reads c.in-Ok.ensures.readings c.in-Ok.ensures.plan c.write_spans.ensures.in_turn

pub returns-clause-placed : goal.returns-clause-placed
returns-clause-placed g c =
    as_asked (λ format readings plan. IfErr c.write_spans.result (OnBad (λ line. Told (g.L.LogSource.folder c.write_spans.new.logs) (λ folder. AreKept format c.args.waits c.args.spans.now folder
    → BadInTurn (asked_of c.args.output) (picked (plan_picks readings plan.items plan.condition)) c.args.most_bad 0 format c.args.waits folder c.args.spans.now line))))
    (g.R.LineReader.format c.args.reader.now) (lines_of c.args.format) c.in-Ok.picker.readings (readings_of c.args.format) c.in-Ok.picker.ready.plan c.args.plan c.requires.reads c.in-Ok.ensures.readings c.in-Ok.ensures.plan c.write_spans.ensures.placed

pub returns-clause-too_many : goal.returns-clause-too_many
returns-clause-too_many g c =
    let Of : Format → Type 0 = λ format. IfErr c.write_spans.result (OnBad (λ line. Told (g.L.LogSource.folder c.write_spans.new.logs) (λ folder. AreKept format c.args.waits c.args.spans.now folder
    → IsTooMany c.args.most_bad 0 (spans_bad_lines format c.args.waits folder c.args.spans.now) line))) in
    subst Of c.requires.reads c.write_spans.ensures.too_many

pub returns-clause-took : goal.returns-clause-took
returns-clause-took g c =
    let Of : Format → Type 0 = λ format. OnOk c.write_spans.result (Told (g.L.LogSource.folder c.write_spans.new.logs) (λ folder. AreKept format c.args.waits c.args.spans.now folder
    → c.write_spans.new.took ≡ c.args.took.now ++ map (took_of format c.args.waits folder) c.args.spans.now)) in
    subst Of c.requires.reads c.write_spans.ensures.took

pub returns-in_default-clause-ahead : goal.returns-in_default-clause-ahead
returns-in_default-clause-ahead g c = inl refl

pub returns-clause-ahead : goal.returns-clause-ahead
returns-clause-ahead g c =
    let kind = kind_of g.G.Stage.state g.G.Stage.ended in
    as_asked (λ format readings plan. GoesAhead kind g.G.Stage.goes (asked_of c.args.output) (plan_picks readings plan.items plan.condition) format c.args.waits (g.L.LogSource.folder c.write_spans.new.logs) c.args.spans.now (g.L.LogSource.given c.args.logs.now) (g.L.LogSource.given c.write_spans.new.logs) c.args.stage.now c.write_spans.new.stage)
    (g.R.LineReader.format c.args.reader.now) (lines_of c.args.format) c.in-Ok.picker.readings (readings_of c.args.format) c.in-Ok.picker.ready.plan c.args.plan c.requires.reads c.in-Ok.ensures.readings c.in-Ok.ensures.plan c.write_spans.ensures.ahead
