use Rattle.std.proofs.Common.{sym, ◌∙◌, ap, subst, Err, ℕ, Option, arith}
use Rattle.any_format.specs.Wanted.{wanted_text}
use Rattle.row_output.specs.Sinks.{files_for}
use Rattle.sampled_run.specs.Finishes.{asked_by}
use Rattle.lp_model.proofs.Growing.{OnlyGrow-refl}
use Rattle.lp_model.specs.Outside.{Told}
use Rattle.text_output.specs.Output.{kind_of}
use Rattle.query_tree.specs.Views.{query_of}
use Rattle.log_reading.proofs.Faults.{bad_line_so}
use Rattle.log_reading.specs.Page.{IsTooMany, IsWithin}
use Rattle.log_reading.specs.Spans.{AreKept, BadLine, spans_bad_lines}
use Rattle.log_reading.specs.declared.span.RunFault.{RunFault}
use Rattle.sampled_run.specs.declared.fault.SampleFault.{SampleFault}
use Rattle.column_kinds.specs.Past.{nothing}
use Rattle.column_kinds.specs.Spans.{past_behind}
use Rattle.sampled_run.specs.Kinds.{writer_kind}
use Rattle.sampled_run.specs.Rules.{rules_of}
use Rattle.sampled_run.specs.Ran.{IsStoppedBy, OnBadOne}
use Rattle.sampled_run.specs.InTurn.{ComesInTurn}
use Rattle.log_reading.proofs.Sizes.{has_room, within_none}
use Rattle.column_kinds.proofs.Taken.{samples_spans, halts_spans}
use Rattle.sampled_run.proofs.Fresh.{fresh_begins, taken_none}
use Rattle.sampled_run.proofs.Faults.{fault_same}
use Rattle.sampled_run.proofs.Ran.{bad_in, fault_from, logs_in, output_in, stopped_at_once, stopped_reading, turn_at_once, turn_reading}
use Rattle.sampled_run.proofs.running.read_page.Goals as goal

pub take_spans-requires-clause-rows : goal.take_spans-requires-clause-rows
take_spans-requires-clause-rows g c =
    let room = has_room c.args.spans.now c.requires.spans c.requires.few in
    let none = c.first_page-page.ensures.rows in
    omega arith

pub take_spans-requires-clause-bad : goal.take_spans-requires-clause-bad
take_spans-requires-clause-bad g c =
    let room = has_room c.args.spans.now c.requires.spans c.requires.few in
    let none = c.first_page-page.ensures.bad in
    omega arith

pub take_spans-requires-clause-taken : goal.take_spans-requires-clause-taken
take_spans-requires-clause-taken g c =
    let room = has_room c.args.spans.now c.requires.spans c.requires.few in
    let none = taken_none (λ w. w.taken) c.args.pattern.now c.args.moment.seconds (query_of c.args.query.now) c.args.wanted c.args.into c.first_page-page.result.taker.phase c.first_page-page.ensures.fresh.phase in
    omega arith

pub take_spans-requires-clause-within : goal.take_spans-requires-clause-within
take_spans-requires-clause-within g c =
    let Of : Option ℕ → Type 0 = λ most. IsWithin most c.first_page-page.result.bad in
    subst Of (sym c.first_page-page.ensures.most) (subst (IsWithin c.args.most_bad) (sym c.first_page-page.ensures.bad) (within_none c.args.most_bad))

pub returns-in_default-clause-grows : goal.returns-in_default-clause-grows
returns-in_default-clause-grows g c = OnlyGrow-refl _

pub returns-in_default-clause-stopped : goal.returns-in_default-clause-stopped
returns-in_default-clause-stopped g c =
    stopped_at_once (kind_of g.G.Stage.state g.G.Stage.ended) (rules_of c.args.limit c.args.pattern.now c.args.moment.seconds (query_of c.args.query.now) (asked_by (files_for c.args.into) (wanted_text c.args.wanted c.args.moment.seconds) (query_of c.args.query.now))) (g.R.LineReader.format c.args.reader.now) c.args.waits (g.L.LogSource.folder c.args.logs.now) c.args.spans.now c.args.stage.now

pub returns-in_default-clause-in_turn : goal.returns-in_default-clause-in_turn
returns-in_default-clause-in_turn g c =
    turn_at_once (rules_of c.args.limit c.args.pattern.now c.args.moment.seconds (query_of c.args.query.now) (asked_by (files_for c.args.into) (wanted_text c.args.wanted c.args.moment.seconds) (query_of c.args.query.now))) (g.R.LineReader.format c.args.reader.now) c.args.waits (g.L.LogSource.folder c.args.logs.now) c.args.spans.now c.args.stage.now c.args.most_bad

pub returns-clause-stopped : goal.returns-clause-stopped
returns-clause-stopped g c =
    let rules = rules_of c.args.limit c.args.pattern.now c.args.moment.seconds (query_of c.args.query.now) (asked_by (files_for c.args.into) (wanted_text c.args.wanted c.args.moment.seconds) (query_of c.args.query.now)) in
    let format = g.R.LineReader.format c.args.reader.now in
    let told = g.L.LogSource.folder c.take_spans.new.logs in
    let u = c.args.stage.now in
    let v = c.take_spans.new.out in
    let Of : SampleFault → Type 0 = λ fault. Told told (λ folder. AreKept format c.args.waits c.args.spans.now folder → IsStoppedBy (kind_of g.G.Stage.state g.G.Stage.ended) rules u (past_behind format c.args.waits folder nothing c.args.spans.now) fault v) in
    subst Of (sym (fault_from _ _ c.in-Err.fault _ c.fault_in.ensures c.phase_of-phase.ensures))
    (stopped_reading (kind_of g.G.Stage.state g.G.Stage.ended) rules format c.args.waits told c.args.spans.now c.first_page-page.result c.take_spans.new.page c.args.stage.now v c.in-Err.fault (fresh_begins (kind_of g.G.Stage.state g.G.Stage.ended) c.args.limit c.args.pattern.now c.args.moment.seconds (query_of c.args.query.now) c.args.wanted c.args.into c.first_page-page.result.taker c.args.stage.now c.first_page-page.ensures.fresh)
    (halts_spans (writer_kind (kind_of g.G.Stage.state g.G.Stage.ended)) format c.args.waits told c.args.spans.now c.first_page-page.result.taker c.take_spans.new.page.taker c.args.stage.now v c.in-Err.ensures.stops))

pub returns-clause-too_many : goal.returns-clause-too_many
returns-clause-too_many g c =
    let format = g.R.LineReader.format c.args.reader.now in
    let told = g.L.LogSource.folder c.take_spans.new.logs in
    let page = c.first_page-page.result in
    let Of : Option ℕ → ℕ → BadLine → Type 0 = λ most bad line. Told told (λ folder. AreKept format c.args.waits c.args.spans.now folder → IsTooMany most bad (spans_bad_lines format c.args.waits folder c.args.spans.now) line) in
    let On : SampleFault → Type 0 = λ fault. OnBadOne fault (Of c.args.most_bad 0) in
    subst On (sym (fault_from _ _ c.in-Err.fault _ c.fault_in.ensures c.phase_of-phase.ensures))
    (bad_in c.take_spans.new.page.taker.phase c.in-Err.fault (Of c.args.most_bad 0)
    (bad_line_so c.in-Err.fault (Of page.most_bad page.bad) (Of c.args.most_bad 0)
    (λ line s. subst (λ (most : Option ℕ). Of most 0 line) c.first_page-page.ensures.most (subst (λ (bad : ℕ). Of page.most_bad bad line) c.first_page-page.ensures.bad s))
    c.in-Err.ensures.too_many))

pub returns-clause-in_turn : goal.returns-clause-in_turn
returns-clause-in_turn g c =
    let rules = rules_of c.args.limit c.args.pattern.now c.args.moment.seconds (query_of c.args.query.now) (asked_by (files_for c.args.into) (wanted_text c.args.wanted c.args.moment.seconds) (query_of c.args.query.now)) in
    let format = g.R.LineReader.format c.args.reader.now in
    let told = g.L.LogSource.folder c.take_spans.new.logs in
    let u = c.args.stage.now in
    let v = c.take_spans.new.out in
    let page = c.first_page-page.result in
    let Of : SampleFault → Type 0 = λ fault. Told told (λ folder. AreKept format c.args.waits c.args.spans.now folder → ComesInTurn rules u (past_behind format c.args.waits folder nothing c.args.spans.now) c.args.most_bad format c.args.waits folder c.args.spans.now fault v) in
    subst Of (sym (fault_from _ _ c.in-Err.fault _ c.fault_in.ensures c.phase_of-phase.ensures))
    (turn_reading (kind_of g.G.Stage.state g.G.Stage.ended) rules format c.args.waits told c.args.spans.now page c.take_spans.new.page u v c.in-Err.fault c.args.most_bad (fresh_begins (kind_of g.G.Stage.state g.G.Stage.ended) c.args.limit c.args.pattern.now c.args.moment.seconds (query_of c.args.query.now) c.args.wanted c.args.into page.taker u c.first_page-page.ensures.fresh)
    c.first_page-page.ensures.most c.first_page-page.ensures.bad c.in-Err.ensures.in_turn c.in-Err.ensures.behind)

pub returns-clause-logs : goal.returns-clause-logs
returns-clause-logs g c = λ is. c.in-Err.ensures.logs (ap (λ (f : RunFault). Err f) (logs_in c.take_spans.new.page.taker.phase c.in-Err.fault (sym (fault_from _ _ c.in-Err.fault _ c.fault_in.ensures c.phase_of-phase.ensures) ∙ fault_same c.fault_in.result _ is)))

pub returns-clause-output : goal.returns-clause-output
returns-clause-output g c = λ is. c.in-Err.ensures.output (ap (λ (f : RunFault). Err f) (output_in c.take_spans.new.page.taker.phase c.in-Err.fault (sym (fault_from _ _ c.in-Err.fault _ c.fault_in.ensures c.phase_of-phase.ensures) ∙ fault_same c.fault_in.result _ is)))

pub returns-in-Ok-take_spans-clause-read : goal.returns-in-Ok-take_spans-clause-read
returns-in-Ok-take_spans-clause-read g c = record {
  first = c.first_page-page.result;
  is_fresh = c.first_page-page.ensures.fresh;
  rows = c.first_page-page.ensures.rows;
  bad = c.first_page-page.ensures.bad;
  reads = samples_spans (writer_kind (kind_of g.G.Stage.state g.G.Stage.ended)) (g.R.LineReader.format c.args.reader.now) c.args.waits (g.L.LogSource.folder c.take_spans.new.logs) c.args.spans.now c.first_page-page.result c.take_spans.new.page c.args.stage.now c.take_spans.new.out c.in-Ok-take_spans.ensures.takes;
}
