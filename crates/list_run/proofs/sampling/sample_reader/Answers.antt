use Rattle.std.proofs.Common.{◌≡◌, ℕ, Option, Err, sym, ◌∙◌, ap, subst, refl, arith}
use Rattle.std.proofs.lemmas.Result.{IfOk-weaker, IfErr-weaker, IfErr-at_err}
use Rattle.lp_model.specs.Outside.{Told}
use Rattle.lp_model.proofs.Growing.{OnlyGrow-refl}
use Rattle.log_reading.specs.Page.{IsTooMany, IsWithin}
use Rattle.log_reading.specs.Spans.{AreKept, BadLine, spans_bad_lines}
use Rattle.log_reading.proofs.Faults.{bad_line_so}
use Rattle.log_reading.proofs.Sizes.{has_room, within_none}
use Rattle.query_tree.specs.Views.{query_of}
use Rattle.query_types.specs.declared.fault.TypeFault.{TypeFault}
use Rattle.query_run.proofs.WholeRun.{bad_taken}
use Rattle.column_kinds.proofs.Taken.{samples_spans, halts_spans}
use Rattle.column_kinds.specs.Spans.{past_behind}
use Rattle.sampled_run.proofs.Fresh.{nothing}
use Rattle.list_run.specs.Faults.{IsOfEnd, OnBad, OnUnplanned}
use Rattle.list_run.specs.Made.{list_kind, IsFresh}
use Rattle.list_run.specs.Rules.{IsGiven, plan_at, rules_of}
use Rattle.list_run.specs.declared.fault.ListFault.{ListFault}
use Rattle.list_run.specs.declared.fault.ListFault.TheVariants as F
use Rattle.list_run.proofs.Sampled.{at_end, bad_end, bad_in, fresh_begins, logs_in, taken_none, unplanned_reading, unplanned_so}
use Rattle.list_run.proofs.sampling.sample_reader.Goals as goal

pub take_spans-requires-clause-rows : goal.take_spans-requires-clause-rows
take_spans-requires-clause-rows g c =
    let room = has_room c.args.spans.now c.requires.spans c.requires.few in
    let none = c.first_page-page.ensures.rows in
    omega arith

pub take_spans-requires-clause-bad : goal.take_spans-requires-clause-bad
take_spans-requires-clause-bad g c =
    let room = has_room c.args.spans.now c.requires.spans c.requires.few in
    let none = c.first_page-page.ensures.bad in
    omega arith

pub take_spans-requires-clause-taken : goal.take_spans-requires-clause-taken
take_spans-requires-clause-taken g c =
    let room = has_room c.args.spans.now c.requires.spans c.requires.few in
    let fresh = subst (IsFresh c.args.limit c.args.pattern.now c.args.moment.seconds (query_of c.args.query.now)) (sym c.first_page-page.ensures.taker) c.first_sample-sample.ensures in
    let none = taken_none (λ w. w.taken) c.args.pattern.now c.args.moment.seconds (query_of c.args.query.now) c.first_page-page.result.taker.phase fresh.phase in
    omega arith

pub take_spans-requires-clause-within : goal.take_spans-requires-clause-within
take_spans-requires-clause-within g c =
    let Of : Option ℕ → Type 0 = λ most. IsWithin most c.first_page-page.result.bad in
    subst Of (sym c.first_page-page.ensures.most) (subst (IsWithin c.args.most_bad) (sym c.first_page-page.ensures.bad) (within_none c.args.most_bad))

pub returns-in_default-clause-grows : goal.returns-in_default-clause-grows
returns-in_default-clause-grows g c = OnlyGrow-refl _

pub returns-in-Ok-take_spans-clause-given_values : goal.returns-in-Ok-take_spans-clause-given_values
returns-in-Ok-take_spans-clause-given_values g c =
    let asked = rules_of c.args.limit c.args.pattern.now c.args.moment.seconds (query_of c.args.query.now) in
    let format = g.R.LineReader.format c.args.reader.now in
    let told = g.L.LogSource.folder c.take_spans.new.logs in
    let fresh = subst (IsFresh c.args.limit c.args.pattern.now c.args.moment.seconds (query_of c.args.query.now)) (sym c.first_page-page.ensures.taker) c.first_sample-sample.ensures in
    let begins = fresh_begins c.args.keep c.args.limit c.args.pattern.now c.args.moment.seconds (query_of c.args.query.now) c.first_page-page.result.taker fresh in
    let taken = samples_spans list_kind format c.args.waits told c.args.spans.now c.first_page-page.result c.take_spans.new.page c.new-gathered.result c.take_spans.new.out c.in-Ok-take_spans.ensures.takes in
    IfOk-weaker c.end_sample.result _ _ (λ list given.
    at_end c.args.keep asked format c.args.waits told c.args.spans.now (λ rules past. IsGiven c.args.keep rules past list) c.first_page-page.result c.take_spans.new.page c.new-gathered.result c.take_spans.new.out c.new-gathered.ensures begins taken (given c.args.keep)) c.end_sample.ensures.given

pub returns-in-Ok-take_spans-clause-unplanned : goal.returns-in-Ok-take_spans-clause-unplanned
returns-in-Ok-take_spans-clause-unplanned g c =
    let asked = rules_of c.args.limit c.args.pattern.now c.args.moment.seconds (query_of c.args.query.now) in
    let format = g.R.LineReader.format c.args.reader.now in
    let told = g.L.LogSource.folder c.take_spans.new.logs in
    let fresh = subst (IsFresh c.args.limit c.args.pattern.now c.args.moment.seconds (query_of c.args.query.now)) (sym c.first_page-page.ensures.taker) c.first_sample-sample.ensures in
    let begins = fresh_begins c.args.keep c.args.limit c.args.pattern.now c.args.moment.seconds (query_of c.args.query.now) c.first_page-page.result.taker fresh in
    let taken = samples_spans list_kind format c.args.waits told c.args.spans.now c.first_page-page.result c.take_spans.new.page c.new-gathered.result c.take_spans.new.out c.in-Ok-take_spans.ensures.takes in
    IfErr-weaker c.end_sample.result _ _ (λ fault un.
    unplanned_so fault _ (λ why. Told told (λ folder. AreKept format c.args.waits c.args.spans.now folder → plan_at asked (past_behind format c.args.waits folder nothing c.args.spans.now) ≡ Err why))
    (λ why so. at_end c.args.keep asked format c.args.waits told c.args.spans.now (λ rules past. plan_at rules past ≡ Err why) c.first_page-page.result c.take_spans.new.page c.new-gathered.result c.take_spans.new.out c.new-gathered.ensures begins taken (so c.args.keep)) un) c.end_sample.ensures.unplanned

pub returns-in-Ok-take_spans-clause-bad : goal.returns-in-Ok-take_spans-clause-bad
returns-in-Ok-take_spans-clause-bad g c =
    IfOk-weaker c.end_sample.result _ _ (λ list same.
    bad_taken _ (g.R.LineReader.format c.args.reader.now) c.args.waits (g.L.LogSource.folder c.take_spans.new.logs) c.args.spans.now c.first_page-page.result c.take_spans.new.page c.new-gathered.result c.take_spans.new.out
    list.bad same c.first_page-page.ensures.bad c.in-Ok-take_spans.ensures.takes) c.end_sample.ensures.bad

pub returns-in-Ok-take_spans-clause-within : goal.returns-in-Ok-take_spans-clause-within
returns-in-Ok-take_spans-clause-within g c =
    IfOk-weaker c.end_sample.result _ _ (λ list same.
    subst (λ (bad : ℕ). IsWithin c.args.most_bad bad) (sym same) (subst (λ (most : Option ℕ). IsWithin most c.take_spans.new.page.bad) (c.take_spans.ensures.most ∙ c.first_page-page.ensures.most) c.in-Ok-take_spans.ensures.within)) c.end_sample.ensures.bad

pub returns-in-Ok-take_spans-clause-too_many : goal.returns-in-Ok-take_spans-clause-too_many
returns-in-Ok-take_spans-clause-too_many g c =
    let format = g.R.LineReader.format c.args.reader.now in
    let told = g.L.LogSource.folder c.take_spans.new.logs in
    let Of : BadLine → Type 0 = λ line. Told told (λ folder. AreKept format c.args.waits c.args.spans.now folder → IsTooMany c.args.most_bad 0 (spans_bad_lines format c.args.waits folder c.args.spans.now) line) in
    IfErr-weaker c.end_sample.result _ _ (λ fault end. bad_end fault Of end) c.end_sample.ensures.ended

pub returns-in-Ok-take_spans-clause-logs : goal.returns-in-Ok-take_spans-clause-logs
returns-in-Ok-take_spans-clause-logs g c = λ e. absurd (IfErr-at_err IsOfEnd e c.end_sample.ensures.ended)

pub returns-clause-unplanned : goal.returns-clause-unplanned
returns-clause-unplanned g c =
    let asked = rules_of c.args.limit c.args.pattern.now c.args.moment.seconds (query_of c.args.query.now) in
    let format = g.R.LineReader.format c.args.reader.now in
    let told = g.L.LogSource.folder c.take_spans.new.logs in
    let fresh = subst (IsFresh c.args.limit c.args.pattern.now c.args.moment.seconds (query_of c.args.query.now)) (sym c.first_page-page.ensures.taker) c.first_sample-sample.ensures in
    let begins = fresh_begins c.args.keep c.args.limit c.args.pattern.now c.args.moment.seconds (query_of c.args.query.now) c.first_page-page.result.taker fresh in
    let Is : TypeFault → Type 0 = λ why. Told told (λ folder. AreKept format c.args.waits c.args.spans.now folder → plan_at asked (past_behind format c.args.waits folder nothing c.args.spans.now) ≡ Err why) in
    subst (OnUnplanned Is) (sym c.fault_in-why.ensures)
    (unplanned_reading c.args.keep asked format c.args.waits told c.args.spans.now c.first_page-page.result c.take_spans.new.page c.new-gathered.result c.take_spans.new.out c.in-Err.fault c.new-gathered.ensures begins
    (halts_spans list_kind format c.args.waits told c.args.spans.now c.first_page-page.result.taker c.take_spans.new.page.taker c.new-gathered.result c.take_spans.new.out c.in-Err.ensures.stops))

pub returns-clause-too_many : goal.returns-clause-too_many
returns-clause-too_many g c =
    let format = g.R.LineReader.format c.args.reader.now in
    let told = g.L.LogSource.folder c.take_spans.new.logs in
    let page = c.first_page-page.result in
    let Of : Option ℕ → ℕ → BadLine → Type 0 = λ most bad line. Told told (λ folder. AreKept format c.args.waits c.args.spans.now folder → IsTooMany most bad (spans_bad_lines format c.args.waits folder c.args.spans.now) line) in
    subst (OnBad (Of c.args.most_bad 0)) (sym c.fault_in-why.ensures) (bad_in c.take_spans.new.page.taker.phase c.in-Err.fault (Of c.args.most_bad 0)
    (bad_line_so c.in-Err.fault (Of page.most_bad page.bad) (Of c.args.most_bad 0)
    (λ line s. subst (λ (most : Option ℕ). Of most 0 line) c.first_page-page.ensures.most (subst (λ (bad : ℕ). Of page.most_bad bad line) c.first_page-page.ensures.bad s))
    c.in-Err.ensures.too_many))

pub returns-clause-logs : goal.returns-clause-logs
returns-clause-logs g c = λ e.
    let is : c.fault_in-why.result ≡ F.Logs = IfErr-at_err (λ (f : ListFault). c.fault_in-why.result ≡ f) e refl in
    c.in-Err.ensures.logs (ap (λ f. Err f) (logs_in c.take_spans.new.page.taker.phase c.in-Err.fault (sym c.fault_in-why.ensures ∙ is)))
