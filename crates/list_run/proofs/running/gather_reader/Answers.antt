use Rattle.std.proofs.Common.{◌≡◌, IfOk, IfErr, subst}
use Rattle.lp_model.specs.Outside.{Told}
use Rattle.lp_model.specs.Reading.{Format}
use Rattle.lp_model.proofs.Growing.{OnlyGrow-refl}
use Rattle.in_set.specs.Facts.{facts_of}
use Rattle.log_reading.specs.Page.{IsTooMany}
use Rattle.log_reading.specs.Spans.{AreKept, spans_bad_lines}
use Rattle.log_reading.proofs.Sizes.{has_room}
use Rattle.input_tables.specs.Tables.{lines_of, readings_of}
use Rattle.plan_run.proofs.Runs.{OnRows, as_asked}
use Rattle.list_run.specs.Faults.{OnBad}
use Rattle.list_run.specs.Keeping.{kept_values}
use Rattle.list_run.specs.Lists.{values_of}
use Rattle.list_run.specs.declared.given.GivenValues.{GivenValues}
use Rattle.list_run.proofs.running.gather_reader.Goals as goal

pub gather_spans-requires-clause-room : goal.gather_spans-requires-clause-room
gather_spans-requires-clause-room g c = has_room c.args.spans.now c.requires.spans c.requires.few

pub returns-in_default-clause-grows : goal.returns-in_default-clause-grows
returns-in_default-clause-grows g c = OnlyGrow-refl _

pub returns-clause-values : goal.returns-clause-values
returns-clause-values g c =
    as_asked (λ format readings plan. IfOk c.gather_spans.result (λ (given : GivenValues). OnRows (g.L.LogSource.folder c.gather_spans.new.logs) c.args.waits c.args.spans.now (λ rows. given.values ≡ facts_of (values_of rows)) format readings plan))
    (g.R.LineReader.format c.args.reader.now) (lines_of c.args.format) c.in-Ok.picker.readings (readings_of c.args.format) c.in-Ok.picker.ready.plan c.args.plan c.requires.reads c.in-Ok.ensures.readings c.in-Ok.ensures.plan c.gather_spans.ensures.values

pub returns-clause-kept : goal.returns-clause-kept
returns-clause-kept g c =
    as_asked (λ format readings plan. IfOk c.gather_spans.result (λ (given : GivenValues). OnRows (g.L.LogSource.folder c.gather_spans.new.logs) c.args.waits c.args.spans.now (λ rows. given.kept ≡ kept_values c.args.keep (values_of rows)) format readings plan))
    (g.R.LineReader.format c.args.reader.now) (lines_of c.args.format) c.in-Ok.picker.readings (readings_of c.args.format) c.in-Ok.picker.ready.plan c.args.plan c.requires.reads c.in-Ok.ensures.readings c.in-Ok.ensures.plan c.gather_spans.ensures.kept

pub returns-clause-too_many : goal.returns-clause-too_many
returns-clause-too_many g c =
    let Of : Format → Type 0 = λ format. IfErr c.gather_spans.result (OnBad (λ line. Told (g.L.LogSource.folder c.gather_spans.new.logs) (λ folder. AreKept format c.args.waits c.args.spans.now folder
    → IsTooMany c.args.most_bad 0 (spans_bad_lines format c.args.waits folder c.args.spans.now) line))) in
    subst Of c.requires.reads c.gather_spans.ensures.too_many
