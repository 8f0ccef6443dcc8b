use Rattle.std.proofs.Common.{ℕ, Ok, Err, FitsSigned, inl, inr, subst, sym, ◌∙◌, w64}
use Rattle.std.proofs.lemmas.Int.{to_z-of_z}
use Rattle.lp_model.proofs.Growing.{OnlyGrow-refl, OnlyGrow-trans}
use Rattle.run_entry.specs.Texts.{sections_in}
use Rattle.log_reading.specs.Spans.{spans_size}
use Rattle.query_tree.specs.Views.{query_of}
use Rattle.checkpointed_run.specs.Reading.{ReadsThen}
use Rattle.checkpointed_run.specs.Staged.{request_of}
use Rattle.checkpointed_run.specs.declared.over.LedgerStop.TheVariants as L
use Rattle.commit.proofs.Known.{read_on}
use Rattle.ledger.proofs.Resting.{rests_none, rests_then}
use Rattle.checkpointed_run.proofs.Causes.{none_begun, none_loaded}
use Rattle.checkpointed_run.proofs.OverDisk.{spans_as, steps_not_begun, steps_over}
use Rattle.checkpointed_run.proofs.Rested.{settles_held, settles_read}
use Rattle.checkpointed_run.proofs.Stopped.{stops_behind, without_counts}
use Rattle.checkpointed_run.proofs.over.run_over_ledger.Goals as goal

pub returns-in-Ok-run_over_spans-clause-grows : goal.returns-in-Ok-run_over_spans-clause-grows
returns-in-Ok-run_over_spans-clause-grows g c = OnlyGrow-trans _ _ _ c.spans_over.ensures.grows c.run_over_spans.ensures.grows

pub returns-clause-grows : goal.returns-clause-grows
returns-clause-grows g c = OnlyGrow-trans _ _ _ c.spans_over.ensures.grows c.run_over_spans.ensures.grows

pub returns-in-Err-clause-step : goal.returns-in-Err-clause-step
returns-in-Err-clause-step g c = λ read known earlier since near front.
    steps_not_begun g.D.Disk.state g.met.D.Disk.only_now g.met.D.Disk.seen_left g.met.D.Disk.counts_now g.met.D.Disk.honest_tells
    (request_of c.args.spec.now (query_of c.args.query.now) c.args.text c.args.bytes c.args.moment) (c.input_texts_tell_their_format.ensures c.args.spec.now (query_of c.args.query.now)) (sections_in (λ t. t.value) c.args.template) c.requires.sections
    c.args.files earlier read c.spans_over.new.disk near (rests_then (g.D.Disk.state read) (g.D.Disk.state c.args.disk.now) (g.D.Disk.state c.spans_over.new.disk) known.rests c.spans_over.ensures.rests) since _ c.in-Err.stop
    (λ can. none_loaded (g.D.Disk.state read) c.args.files.ledger c.args.files.stage _ _ _ _ _ c.in-Err.stop (g.met.D.Disk.honest_tells read can.honest) (g.met.D.Disk.seen_left read can.honest) can (c.in-Err.ensures.not_begun read known))

pub returns-in-Some-clause-step : goal.returns-in-Some-clause-step
returns-in-Some-clause-step g c = λ read known earlier since near front.
    steps_not_begun g.D.Disk.state g.met.D.Disk.only_now g.met.D.Disk.seen_left g.met.D.Disk.counts_now g.met.D.Disk.honest_tells
    (request_of c.args.spec.now (query_of c.args.query.now) c.args.text c.args.bytes c.args.moment) (c.input_texts_tell_their_format.ensures c.args.spec.now (query_of c.args.query.now)) (sections_in (λ t. t.value) c.args.template) c.requires.sections
    c.args.files earlier read c.spans_over.new.disk near (rests_then (g.D.Disk.state read) (g.D.Disk.state c.args.disk.now) (g.D.Disk.state c.spans_over.new.disk) known.rests c.spans_over.ensures.rests) since _ (L.Clash c.in-Some.name) (λ can told. told)

pub returns-in-Err-clause-refused : goal.returns-in-Err-clause-refused
returns-in-Err-clause-refused g c = λ read known. without_counts g.D.Disk.state (g.D.Disk.state read) c.args.files.ledger c.args.files.stage _ _ _ _ _ _ _ c.in-Err.stop (c.in-Err.ensures.not_begun read known)

pub returns-in-Err-clause-before : goal.returns-in-Err-clause-before
returns-in-Err-clause-before g c = λ read known stopped can. settles_read g.D.Disk.state g.met.D.Disk.only_now g.met.D.Disk.counts_now c.args.files read c.spans_over.new.disk (rests_then (g.D.Disk.state read) (g.D.Disk.state c.args.disk.now) (g.D.Disk.state c.spans_over.new.disk) known.rests c.spans_over.ensures.rests) can

pub returns-in-Some-clause-before : goal.returns-in-Some-clause-before
returns-in-Some-clause-before g c = λ read known stopped can. settles_read g.D.Disk.state g.met.D.Disk.only_now g.met.D.Disk.counts_now c.args.files read c.spans_over.new.disk (rests_then (g.D.Disk.state read) (g.D.Disk.state c.args.disk.now) (g.D.Disk.state c.spans_over.new.disk) known.rests c.spans_over.ensures.rests) can

pub returns-clause-before : goal.returns-clause-before
returns-clause-before g c = λ read known stopped can.
    let range : FitsSigned w64 c.args.moment = c.ranges.moment in
    let each = simp to_z-of_z at c.in-Err-run_over_spans.ensures.runs in
    let runs = each read (read_on (g.D.Disk.state read) (g.D.Disk.state c.args.disk.now) (g.D.Disk.state c.spans_over.new.disk) c.args.files.ledger c.args.known known c.spans_over.ensures.rests) in
    settles_held g.D.Disk.state g.met.D.Disk.only_now g.met.D.Disk.counts_now c.args.files read read (rests_none (g.D.Disk.state read)) c.run_over_spans.new.disk runs.first runs.last runs.files_are runs.old_is runs.new_is (runs.before stopped) can

pub returns-in-Ok-run_over_spans-clause-fits : goal.returns-in-Ok-run_over_spans-clause-fits
returns-in-Ok-run_over_spans-clause-fits g c = λ read known. c.in-Ok-run_over_spans.ensures.fits read (read_on (g.D.Disk.state read) (g.D.Disk.state c.args.disk.now) (g.D.Disk.state c.spans_over.new.disk) c.args.files.ledger c.args.known known c.spans_over.ensures.rests)

pub returns-in-Some-clause-refused : goal.returns-in-Some-clause-refused
returns-in-Some-clause-refused g c = λ read known. record { listed = _; grows = OnlyGrow-refl _; spans = c.in-Ok.spans; has = c.in-Ok.ensures.spans read known; is = sym c.in-Some.ensures }

pub returns-in-Ok-run_over_spans-clause-step : goal.returns-in-Ok-run_over_spans-clause-step
returns-in-Ok-run_over_spans-clause-step g c = λ read known earlier since near front.
    let range : FitsSigned w64 c.args.moment = c.ranges.moment in
    let each = simp to_z-of_z at c.in-Ok-run_over_spans.ensures.runs in
    steps_over g.D.Disk.state g.met.D.Disk.only_now g.met.D.Disk.seen_left g.met.D.Disk.counts_now g.met.D.Disk.honest_tells
    (request_of c.args.spec.now (query_of c.args.query.now) c.args.text c.args.bytes c.args.moment) (c.input_texts_tell_their_format.ensures c.args.spec.now (query_of c.args.query.now)) (sections_in (λ t. t.value) c.args.template) c.requires.sections
    c.args.files earlier read read near (rests_none (g.D.Disk.state read)) c.requires.ledger c.requires.stage
    since _ _ _ front c.spans_over.ensures.grows c.run_over_spans.ensures.grows c.in-Ok.spans c.in-Ok.ensures.low
    (spans_as _ _ _ _ _ _ _ _ _ _ c.requires.rotation c.requires.names (c.in-Ok.ensures.spans read known)) c.run_over_spans.new.disk
    (Ok c.in-Ok-run_over_spans.counts) (each read (read_on (g.D.Disk.state read) (g.D.Disk.state c.args.disk.now) (g.D.Disk.state c.spans_over.new.disk) c.args.files.ledger c.args.known known c.spans_over.ensures.rests))

pub returns-clause-step : goal.returns-clause-step
returns-clause-step g c = λ read known earlier since near front.
    let range : FitsSigned w64 c.args.moment = c.ranges.moment in
    let each = simp to_z-of_z at c.in-Err-run_over_spans.ensures.runs in
    steps_over g.D.Disk.state g.met.D.Disk.only_now g.met.D.Disk.seen_left g.met.D.Disk.counts_now g.met.D.Disk.honest_tells
    (request_of c.args.spec.now (query_of c.args.query.now) c.args.text c.args.bytes c.args.moment) (c.input_texts_tell_their_format.ensures c.args.spec.now (query_of c.args.query.now)) (sections_in (λ t. t.value) c.args.template) c.requires.sections
    c.args.files earlier read read near (rests_none (g.D.Disk.state read)) c.requires.ledger c.requires.stage
    since _ _ _ front c.spans_over.ensures.grows c.run_over_spans.ensures.grows c.in-Ok.spans c.in-Ok.ensures.low
    (spans_as _ _ _ _ _ _ _ _ _ _ c.requires.rotation c.requires.names (c.in-Ok.ensures.spans read known)) c.run_over_spans.new.disk
    (Err c.in-Err-run_over_spans.stop) (each read (read_on (g.D.Disk.state read) (g.D.Disk.state c.args.disk.now) (g.D.Disk.state c.spans_over.new.disk) c.args.files.ledger c.args.known known c.spans_over.ensures.rests))

pub returns-clause-damaged : goal.returns-clause-damaged
returns-clause-damaged g c = λ read known. c.in-Err-run_over_spans.ensures.damaged read (read_on (g.D.Disk.state read) (g.D.Disk.state c.args.disk.now) (g.D.Disk.state c.spans_over.new.disk) c.args.files.ledger c.args.known known c.spans_over.ensures.rests)

pub returns-in-Err-clause-damaged : goal.returns-in-Err-clause-damaged
returns-in-Err-clause-damaged g c = λ read known. none_begun (g.D.Disk.state read) c.args.files.ledger c.args.files.stage _ _ _ _ _ c.in-Err.stop (c.in-Err.ensures.not_begun read known)

pub returns-in-Ok-run_over_spans-clause-ran : goal.returns-in-Ok-run_over_spans-clause-ran
returns-in-Ok-run_over_spans-clause-ran g c = λ read known.
    let range : FitsSigned w64 c.args.moment = c.ranges.moment in
    let each = simp to_z-of_z at c.in-Ok-run_over_spans.ensures.runs in
    let runs = each read (read_on (g.D.Disk.state read) (g.D.Disk.state c.args.disk.now) (g.D.Disk.state c.spans_over.new.disk) c.args.files.ledger c.args.known known c.spans_over.ensures.rests) in
    let stages = runs.committed.comes.stages in
    record {
      listed = g.L.Logs.folder c.spans_over.new.logs;
      grows = c.run_over_spans.ensures.grows;
      spans = c.in-Ok.spans;
      has = c.in-Ok.ensures.spans read known;
      free = sym c.clash_in.ensures ∙ c.in_default.is;
      started = stages.started;
      staged = runs.committed.comes.staged;
      took = stages.run.took;
      outputs = stages.run.outputs;
      givens = stages.givens;
      lists = stages.lists;
      give = stages.give;
      carried = stages.run.carried;
    }

pub returns-in-Err-clause-given : goal.returns-in-Err-clause-given
returns-in-Err-clause-given g c = λ read known. inl c.spans_over.ensures.given

pub returns-in-Some-clause-given : goal.returns-in-Some-clause-given
returns-in-Some-clause-given g c = λ read known. inl c.spans_over.ensures.given

pub returns-in-Ok-run_over_spans-clause-given : goal.returns-in-Ok-run_over_spans-clause-given
returns-in-Ok-run_over_spans-clause-given g c = λ read known. inr (record {
  listed = g.L.Logs.folder c.spans_over.new.logs;
  grows = c.run_over_spans.ensures.grows;
  spans = c.in-Ok.spans;
  has = c.in-Ok.ensures.spans read known;
  free = sym c.clash_in.ensures ∙ c.in_default.is;
  most = subst (λ (start : ℕ). ReadsThen (g.L.Logs.folder c.run_over_spans.new.logs) (query_of c.args.query.now) (spans_size c.in-Ok.spans) start (g.L.Logs.given c.run_over_spans.new.logs)) c.spans_over.ensures.given c.run_over_spans.ensures.given;
})

pub returns-clause-given : goal.returns-clause-given
returns-clause-given g c = λ read known. inr (record {
  listed = g.L.Logs.folder c.spans_over.new.logs;
  grows = c.run_over_spans.ensures.grows;
  spans = c.in-Ok.spans;
  has = c.in-Ok.ensures.spans read known;
  free = sym c.clash_in.ensures ∙ c.in_default.is;
  most = subst (λ (start : ℕ). ReadsThen (g.L.Logs.folder c.run_over_spans.new.logs) (query_of c.args.query.now) (spans_size c.in-Ok.spans) start (g.L.Logs.given c.run_over_spans.new.logs)) c.spans_over.ensures.given c.run_over_spans.ensures.given;
})

pub returns-clause-refused : goal.returns-clause-refused
returns-clause-refused g c = λ read known.
    let range : FitsSigned w64 c.args.moment = c.ranges.moment in
    let each = simp to_z-of_z at c.in-Err-run_over_spans.ensures.runs in
    let runs = each read (read_on (g.D.Disk.state read) (g.D.Disk.state c.args.disk.now) (g.D.Disk.state c.spans_over.new.disk) c.args.files.ledger c.args.known known c.spans_over.ensures.rests) in
    record {
      listed = g.L.Logs.folder c.spans_over.new.logs;
      grows = c.run_over_spans.ensures.grows;
      spans = c.in-Ok.spans;
      has = c.in-Ok.ensures.spans read known;
      free = sym c.clash_in.ensures ∙ c.in_default.is;
      stops = simp to_z-of_z at c.in-Err-run_over_spans.ensures.refused;
      behind = stops_behind g.D.Disk.state (request_of c.args.spec.now (query_of c.args.query.now) c.args.text c.args.bytes c.args.moment) (sections_in (λ t. t.value) c.args.template) (g.L.Logs.folder c.spans_over.new.logs)
          (g.L.Logs.folder c.run_over_spans.new.logs) c.in-Ok.spans c.args.files read read c.run_over_spans.new.disk c.in-Err-run_over_spans.stop (rests_none (g.D.Disk.state read)) runs;
    }
