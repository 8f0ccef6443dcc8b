use Rattle.std.proofs.Common.{refl}
use Rattle.lp_model.specs.Outside.{Told}
use Rattle.any_format.specs.Wanted.{wanted_text}
use Rattle.text_output.specs.Output.{kind_of}
use Rattle.query_tree.specs.Views.{query_of}
use Rattle.log_reading.specs.Page.{IsTooMany}
use Rattle.log_reading.specs.Spans.{AreKept, BadLine, spans_bad_lines}
use Rattle.row_output.specs.Sinks.{files_for}
use Rattle.sampled_run.specs.Finishes.{asked_by}
use Rattle.sampled_groups.specs.Rules.{group_rules_of}
use Rattle.sampled_groups.proofs.Fresh.{fresh_begins}
use Rattle.sampled_run.proofs.Faults.{bad_end, fault_same, logs_end}
use Rattle.sampled_groups.proofs.Ran.{ran, stopped_ending, turn_ending}
use Rattle.sampled_groups.proofs.running.sample_reader.Goals as goal

pub returns-in-Ok-clause-ran : goal.returns-in-Ok-clause-ran
returns-in-Ok-clause-ran g c =
    let rules = group_rules_of c.args.limit c.args.pattern.now c.args.moment.seconds (query_of c.args.query.now) (asked_by (files_for c.args.into) (wanted_text c.args.wanted c.args.moment.seconds) (query_of c.args.query.now)) in
    let read = c.in_ok-page.ensures.read in
    ran (kind_of g.G.Stage.state g.G.Stage.ended) rules (g.R.LineReader.format c.args.reader.now) c.args.waits (g.L.LogSource.folder c.read_page.new.logs) c.args.spans.now read.first c.in_ok-page.page c.args.stage.now c.read_page.new.stage c.finish_run.new.stage _
    (fresh_begins (kind_of g.G.Stage.state g.G.Stage.ended) c.args.limit c.args.pattern.now c.args.moment.seconds (query_of c.args.query.now) c.args.wanted c.args.into read.first.taker c.args.stage.now read.is_fresh)
    read.rows read.bad refl refl read.reads c.in-Ok.ensures.written

pub returns-in-Ok-clause-goes : goal.returns-in-Ok-clause-goes
returns-in-Ok-clause-goes g c = g.met.G.Stage.goes_on _ _ _ c.read_page.ensures.goes c.finish_run.ensures.goes

pub returns-clause-stopped : goal.returns-clause-stopped
returns-clause-stopped g c =
    let rules = group_rules_of c.args.limit c.args.pattern.now c.args.moment.seconds (query_of c.args.query.now) (asked_by (files_for c.args.into) (wanted_text c.args.wanted c.args.moment.seconds) (query_of c.args.query.now)) in
    let read = c.in_ok-page.ensures.read in
    stopped_ending (kind_of g.G.Stage.state g.G.Stage.ended) rules (g.R.LineReader.format c.args.reader.now) c.args.waits (g.L.LogSource.folder c.read_page.new.logs) c.args.spans.now read.first c.in_ok-page.page c.args.stage.now c.read_page.new.stage c.finish_run.new.stage c.in-Err.fault
    (fresh_begins (kind_of g.G.Stage.state g.G.Stage.ended) c.args.limit c.args.pattern.now c.args.moment.seconds (query_of c.args.query.now) c.args.wanted c.args.into read.first.taker c.args.stage.now read.is_fresh) read.reads c.in-Err.ensures.stopped

pub returns-clause-too_many : goal.returns-clause-too_many
returns-clause-too_many g c =
    let format = g.R.LineReader.format c.args.reader.now in
    let told = g.L.LogSource.folder c.read_page.new.logs in
    let Of : BadLine → Type 0 = λ line. Told told (λ folder. AreKept format c.args.waits c.args.spans.now folder → IsTooMany c.args.most_bad 0 (spans_bad_lines format c.args.waits folder c.args.spans.now) line) in
    bad_end c.in-Err.fault Of c.in-Err.ensures.ended

pub returns-clause-in_turn : goal.returns-clause-in_turn
returns-clause-in_turn g c =
    let rules = group_rules_of c.args.limit c.args.pattern.now c.args.moment.seconds (query_of c.args.query.now) (asked_by (files_for c.args.into) (wanted_text c.args.wanted c.args.moment.seconds) (query_of c.args.query.now)) in
    let read = c.in_ok-page.ensures.read in
    turn_ending (kind_of g.G.Stage.state g.G.Stage.ended) rules (g.R.LineReader.format c.args.reader.now) c.args.waits (g.L.LogSource.folder c.read_page.new.logs) c.args.spans.now read.first c.in_ok-page.page c.args.stage.now c.read_page.new.stage c.finish_run.new.stage c.args.most_bad c.in-Err.fault
    read.bad c.in_ok-page.ensures.within c.in-Err.ensures.ended read.reads

pub returns-clause-logs : goal.returns-clause-logs
returns-clause-logs g c = λ is. absurd (logs_end c.in-Err.fault c.in-Err.ensures.ended (fault_same c.in-Err.fault _ is))

pub returns-clause-goes : goal.returns-clause-goes
returns-clause-goes g c = g.met.G.Stage.goes_on _ _ _ c.read_page.ensures.goes c.finish_run.ensures.goes
