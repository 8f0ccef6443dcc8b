use Rattle.std.proofs.Common.{◌≡◌, ◌⊎◌, inl, inr, ℕ, List, [], length, Err, Option, None, ap, sym, ◌∙◌, subst, refl}
use Rattle.std.proofs.lemmas.Result.{IfOk-weaker, IfErr-weaker, IfErr-at_err, on_err_weaker}
use Rattle.lp_model.specs.Outside.{Folder, Told}
use Rattle.lp_model.proofs.Growing.{OnlyGrow-refl}
use Rattle.lp_model.proofs.Results.{on_err}
use Rattle.lp_values.specs.declared.value.Value.{Value}
use Rattle.log_reading.specs.Page.{IsTooMany, IsWithin}
use Rattle.log_reading.specs.Spans.{AreKept, BadLine, spans_found, spans_bad, spans_bad_lines}
use Rattle.log_reading.proofs.Faults.{handed_on, bad_line_so}
use Rattle.text_output.specs.Output.{kind_of}
use Rattle.row_output.specs.Asked.{left_of}
use Rattle.row_output.specs.Kept.{HasRows, asked_of}
use Rattle.row_output.specs.Rows.{Holds, IsRefused, Stops}
use Rattle.row_output.specs.declared.fault.Refused.{Refused}
use Rattle.query_run.specs.Faults.{OnBad, OnRefusedOutput}
use Rattle.query_run.specs.declared.fault.WriteFault.{WriteFault}
use Rattle.query_run.specs.declared.fault.WriteFault.TheVariants as W
use Rattle.query_run.proofs.Reasons.{bad_all, bad_each, bad_in, bad_so, logs_in, refused_all, refused_each, refused_in, refused_so}
use Rattle.query_run.proofs.WholeRun.{told_all, told_map, rows_taken, bad_taken, bad_within}
use Rattle.row_output.proofs.Stopping.{rows_stop}
use Rattle.row_steps.specs.Gathered.{gathered_at}
use Rattle.row_steps.specs.Grouped.{grouped_output}
use Rattle.row_steps.proofs.Ends.{spans_end}
use Rattle.group_run.specs.InTurn.{IsReached}
use Rattle.group_run.proofs.Reached.{reached}
use Rattle.group_run.proofs.spans.group_spans.Goals as goal

pub stopped_in-requires : goal.stopped_in-requires
stopped_in-requires g c = λ e. absurd (c.in-Err.ensures.stopped (ap (λ f. Err f) e))

pub returns-in_err-page-clause-grows : goal.returns-in_err-page-clause-grows
returns-in_err-page-clause-grows g c = OnlyGrow-refl _

pub returns-in_default-clause-grows : goal.returns-in_default-clause-grows
returns-in_default-clause-grows g c = OnlyGrow-refl _

pub returns-in_err-page-clause-stops : goal.returns-in_err-page-clause-stops
returns-in_err-page-clause-stops g c =
    let kind = kind_of g.G.Stage.state g.G.Stage.ended in
    let asks = c.args.asks.now in
    let format = g.R.LineReader.format c.args.reader.now in
    let rows : Folder → List (List Value) = λ folder. grouped_output asks.keys asks.aggregates asks.rollup (g.P.Picker.picks c.args.picker) c.args.plan.plan (spans_found format c.args.waits folder c.args.spans.now) in
    on_err _ c.from_residual.result
    (told_all _ (λ folder. AreKept format c.args.waits c.args.spans.now folder → Stops kind (asked_of c.args.output) c.args.stage.now (rows folder) c.open_page.new.stage) (λ folder kept. c.in_err-page.ensures.stops (rows folder)))

pub returns-in_err-page-clause-refused : goal.returns-in_err-page-clause-refused
returns-in_err-page-clause-refused g c =
    let told = g.L.LogSource.folder c.args.logs.now in
    let asks = c.args.asks.now in
    let format = g.R.LineReader.format c.args.reader.now in
    let rows : Folder → List (List Value) = λ folder. grouped_output asks.keys asks.aggregates asks.rollup (g.P.Picker.picks c.args.picker) c.args.plan.plan (spans_found format c.args.waits folder c.args.spans.now) in
    let Q : Refused → Type 0 = λ why. Told told (λ folder. AreKept format c.args.waits c.args.spans.now folder → IsRefused (asked_of c.args.output) (rows folder) why) in
    handed_on c.from_residual.result _ (OnRefusedOutput Q) c.from_residual.ensures.1
    (refused_so _ _ Q (λ why is. told_all told (λ folder. AreKept format c.args.waits c.args.spans.now folder → IsRefused (asked_of c.args.output) (rows folder) why) (λ folder kept. is (rows folder))) c.in_err-page.ensures.refused)

pub returns-in_err-page-clause-early : goal.returns-in_err-page-clause-early
returns-in_err-page-clause-early g c =
    let told = g.L.LogSource.folder c.args.logs.now in
    let format = g.R.LineReader.format c.args.reader.now in
    let Early : Refused → Folder → Type 0 = λ why folder. AreKept format c.args.waits c.args.spans.now folder → IsRefused (asked_of c.args.output) [] why ⊎ IsWithin c.args.most_bad (length (spans_bad format c.args.waits folder c.args.spans.now)) in
    let Q : Refused → Type 0 = λ why. Told told (Early why) in
    handed_on c.from_residual.result _ (OnRefusedOutput Q) c.from_residual.ensures.1
    (refused_so _ _ Q (λ why is. told_all told (Early why) (λ folder kept. inl (is []))) c.in_err-page.ensures.refused)

pub returns-in_err-page-clause-unread : goal.returns-in_err-page-clause-unread
returns-in_err-page-clause-unread g c =
    refused_each c.from_residual.result (λ why. IsRefused (asked_of c.args.output) [] why → g.L.LogSource.given c.args.logs.now ≡ g.L.LogSource.given c.args.logs.now) (λ why is. refl)

pub returns-in_err-page-clause-named : goal.returns-in_err-page-clause-named
returns-in_err-page-clause-named g c =
    let Of : BadLine → Type 0 = λ line. (why : Refused) → IsRefused (asked_of c.args.output) [] why → ⊥ in
    handed_on c.from_residual.result _ (OnBad Of) c.from_residual.ensures.1 (bad_so _ (λ line. ⊥) Of (λ line none. absurd none) c.in_err-page.ensures.good)

pub returns-in_err-page-clause-too_many : goal.returns-in_err-page-clause-too_many
returns-in_err-page-clause-too_many g c =
    let format = g.R.LineReader.format c.args.reader.now in
    let told = g.L.LogSource.folder c.args.logs.now in
    let Of : BadLine → Type 0 = λ line. Told told (λ folder. AreKept format c.args.waits c.args.spans.now folder → IsTooMany c.args.most_bad 0 (spans_bad_lines format c.args.waits folder c.args.spans.now) line) in
    handed_on c.from_residual.result _ (OnBad Of) c.from_residual.ensures.1 (bad_so _ (λ line. ⊥) Of (λ line none. absurd none) c.in_err-page.ensures.good)

pub returns-in_default-clause-stops : goal.returns-in_default-clause-stops
returns-in_default-clause-stops g c =
    let kind = kind_of g.G.Stage.state g.G.Stage.ended in
    let asks = c.args.asks.now in
    let format = g.R.LineReader.format c.args.reader.now in
    let rows : Folder → List (List Value) = λ folder. grouped_output asks.keys asks.aggregates asks.rollup (g.P.Picker.picks c.args.picker) c.args.plan.plan (spans_found format c.args.waits folder c.args.spans.now) in
    told_all _ (λ folder. AreKept format c.args.waits c.args.spans.now folder → Stops kind (asked_of c.args.output) c.args.stage.now (rows folder) c.open_page.new.stage)
    (λ folder kept. subst (λ asked. Stops kind asked c.args.stage.now (rows folder) c.open_page.new.stage) c.open_page.ensures.asked (rows_stop kind c.open_page.new.output c.args.stage.now [] (rows folder) c.open_page.new.stage c.in_ok-page.ensures.has))

pub returns-clause-stops : goal.returns-clause-stops
returns-clause-stops g c =
    let kind = kind_of g.G.Stage.state g.G.Stage.ended in
    let told = g.L.LogSource.folder c.take_spans.new.logs in
    let asks = c.args.asks.now in
    let format = g.R.LineReader.format c.args.reader.now in
    let rows : Folder → List (List Value) = λ folder. grouped_output asks.keys asks.aggregates asks.rollup (g.P.Picker.picks c.args.picker) c.args.plan.plan (spans_found format c.args.waits folder c.args.spans.now) in
    told_map told (λ folder. AreKept format c.args.waits c.args.spans.now folder → c.take_spans.new.out ≡ c.open_page.new.stage) (λ folder. AreKept format c.args.waits c.args.spans.now folder → Stops kind (asked_of c.args.output) c.args.stage.now (rows folder) c.take_spans.new.out) (λ folder same kept.
    subst (λ stage. Stops kind (asked_of c.args.output) c.args.stage.now (rows folder) stage) (sym (same kept))
    (subst (λ asked. Stops kind asked c.args.stage.now (rows folder) c.open_page.new.stage) c.open_page.ensures.asked (rows_stop kind c.open_page.new.output c.args.stage.now [] (rows folder) c.open_page.new.stage c.in_ok-page.ensures.has)))
    c.in-Err.ensures.stops

pub returns-clause-refused : goal.returns-clause-refused
returns-clause-refused g c =
    let told = g.L.LogSource.folder c.take_spans.new.logs in
    let asks = c.args.asks.now in
    let format = g.R.LineReader.format c.args.reader.now in
    let rows : Folder → List (List Value) = λ folder. grouped_output asks.keys asks.aggregates asks.rollup (g.P.Picker.picks c.args.picker) c.args.plan.plan (spans_found format c.args.waits folder c.args.spans.now) in
    let Q : Refused → Type 0 = λ why. Told told (λ folder. AreKept format c.args.waits c.args.spans.now folder → IsRefused (asked_of c.args.output) (rows folder) why) in
    subst (OnRefusedOutput Q) (sym c.stopped_in.ensures) (refused_in c.in-Err.fault None Q tt)

pub returns-clause-early : goal.returns-clause-early
returns-clause-early g c =
    let told = g.L.LogSource.folder c.take_spans.new.logs in
    let format = g.R.LineReader.format c.args.reader.now in
    let Q : Refused → Type 0 = λ why. Told told (λ folder. AreKept format c.args.waits c.args.spans.now folder → IsRefused (asked_of c.args.output) [] why ⊎ IsWithin c.args.most_bad (length (spans_bad format c.args.waits folder c.args.spans.now))) in
    subst (OnRefusedOutput Q) (sym c.stopped_in.ensures) (refused_in c.in-Err.fault None Q tt)

pub returns-clause-unread : goal.returns-clause-unread
returns-clause-unread g c =
    refused_all c.stopped_in.result (λ why. IsRefused (asked_of c.args.output) [] why → g.L.LogSource.given c.take_spans.new.logs ≡ g.L.LogSource.given c.args.logs.now) (λ why is. absurd (c.in_ok-page.ensures.named why is))

pub returns-in-Ok-take_spans-clause-unread : goal.returns-in-Ok-take_spans-clause-unread
returns-in-Ok-take_spans-clause-unread g c =
    refused_each c.end_page.result (λ why. IsRefused (asked_of c.args.output) [] why → g.L.LogSource.given c.take_spans.new.logs ≡ g.L.LogSource.given c.args.logs.now) (λ why is. absurd (c.in_ok-page.ensures.named why is))

pub returns-clause-named : goal.returns-clause-named
returns-clause-named g c = bad_all c.stopped_in.result (λ line. (why : Refused) → IsRefused (asked_of c.args.output) [] why → ⊥) (λ line. c.in_ok-page.ensures.named)

pub returns-clause-too_many : goal.returns-clause-too_many
returns-clause-too_many g c =
    let page = c.in_ok-page.page in
    let format = g.R.LineReader.format c.args.reader.now in
    let told = g.L.LogSource.folder c.take_spans.new.logs in
    let Of : Option ℕ → ℕ → BadLine → Type 0 = λ most bad line. Told told (λ folder. AreKept format c.args.waits c.args.spans.now folder → IsTooMany most bad (spans_bad_lines format c.args.waits folder c.args.spans.now) line) in
    subst (OnBad (Of c.args.most_bad 0)) (sym c.stopped_in.ensures) (bad_in c.in-Err.fault None (Of c.args.most_bad 0)
    (bad_line_so _ _ (Of c.args.most_bad 0)
    (λ line s. subst (λ (most : Option ℕ). Of most 0 line) c.in_ok-page.ensures.most (subst (λ (bad : ℕ). Of page.most_bad bad line) c.in_ok-page.ensures.bad s))
    c.in-Err.ensures.too_many))

pub returns-clause-logs : goal.returns-clause-logs
returns-clause-logs g c = λ e.
    let is : c.stopped_in.result ≡ W.Logs = IfErr-at_err (λ (f : WriteFault). c.stopped_in.result ≡ f) e refl in
    c.in-Err.ensures.logs (ap (λ f. Err f) (logs_in c.in-Err.fault None (sym c.stopped_in.ensures ∙ is)))

pub returns-clause-goes : goal.returns-clause-goes
returns-clause-goes g c = g.met.G.Stage.goes_on c.args.stage.now c.open_page.new.stage c.take_spans.new.out c.open_page.ensures.goes c.take_spans.ensures.goes

pub returns-in-Ok-take_spans-clause-holds : goal.returns-in-Ok-take_spans-clause-holds
returns-in-Ok-take_spans-clause-holds g c =
    let kind = kind_of g.G.Stage.state g.G.Stage.ended in
    let opened = c.in_ok-page.ensures in
    IfOk-weaker c.end_page.result _ _ (λ written holds.
    spans_end g.P.Picker.picks (λ w s. gathered_at w.picker w.plan w.groups s) c.args.asks.now c.args.picker c.args.plan (g.R.LineReader.format c.args.reader.now) c.args.waits (g.L.LogSource.folder c.take_spans.new.logs) c.args.spans.now
    c.in_ok-page.page c.take_spans.new.page c.open_page.new.stage c.take_spans.new.out (λ s. HasRows kind c.open_page.new.output c.args.stage.now [] s) (λ asked out. Holds kind asked c.args.stage.now out written.outputs c.end_page.new.stage) (asked_of c.open_page.new.output) (asked_of c.args.output) c.open_page.ensures.asked
    opened.groups opened.picker opened.plan c.in-Ok-take_spans.ensures.takes opened.has (holds c.args.stage.now)) c.end_page.ensures.holds

pub returns-in-Ok-take_spans-clause-output : goal.returns-in-Ok-take_spans-clause-output
returns-in-Ok-take_spans-clause-output g c =
    let kind = kind_of g.G.Stage.state g.G.Stage.ended in
    let opened = c.in_ok-page.ensures in
    IfOk-weaker c.end_page.result _ _ (λ written output.
    spans_end g.P.Picker.picks (λ w s. gathered_at w.picker w.plan w.groups s) c.args.asks.now c.args.picker c.args.plan (g.R.LineReader.format c.args.reader.now) c.args.waits (g.L.LogSource.folder c.take_spans.new.logs) c.args.spans.now
    c.in_ok-page.page c.take_spans.new.page c.open_page.new.stage c.take_spans.new.out (λ s. HasRows kind c.open_page.new.output c.args.stage.now [] s) (λ asked out. written.counts.output ≡ length (left_of asked out)) (asked_of c.open_page.new.output) (asked_of c.args.output) c.open_page.ensures.asked
    opened.groups opened.picker opened.plan c.in-Ok-take_spans.ensures.takes opened.has (output c.args.stage.now)) c.end_page.ensures.output

pub returns-in-Ok-take_spans-clause-stops : goal.returns-in-Ok-take_spans-clause-stops
returns-in-Ok-take_spans-clause-stops g c =
    let kind = kind_of g.G.Stage.state g.G.Stage.ended in
    let opened = c.in_ok-page.ensures in
    on_err_weaker c.end_page.result (λ stops.
    spans_end g.P.Picker.picks (λ w s. gathered_at w.picker w.plan w.groups s) c.args.asks.now c.args.picker c.args.plan (g.R.LineReader.format c.args.reader.now) c.args.waits (g.L.LogSource.folder c.take_spans.new.logs) c.args.spans.now
    c.in_ok-page.page c.take_spans.new.page c.open_page.new.stage c.take_spans.new.out (λ s. HasRows kind c.open_page.new.output c.args.stage.now [] s) (λ asked out. Stops kind asked c.args.stage.now out c.end_page.new.stage) (asked_of c.open_page.new.output) (asked_of c.args.output) c.open_page.ensures.asked
    opened.groups opened.picker opened.plan c.in-Ok-take_spans.ensures.takes opened.has (stops c.args.stage.now)) c.end_page.ensures.stops

pub returns-in-Ok-take_spans-clause-took : goal.returns-in-Ok-take_spans-clause-took
returns-in-Ok-take_spans-clause-took g c = IfOk-weaker c.end_page.result _ _ (λ written same. c.in-Ok-take_spans.ensures.took) c.end_page.ensures.processed

pub returns-in-Ok-take_spans-clause-refused : goal.returns-in-Ok-take_spans-clause-refused
returns-in-Ok-take_spans-clause-refused g c =
    let kind = kind_of g.G.Stage.state g.G.Stage.ended in
    let opened = c.in_ok-page.ensures in
    IfErr-weaker c.end_page.result _ _ (λ fault refused. refused_so fault _ _ (λ why is.
    spans_end g.P.Picker.picks (λ w s. gathered_at w.picker w.plan w.groups s) c.args.asks.now c.args.picker c.args.plan (g.R.LineReader.format c.args.reader.now) c.args.waits (g.L.LogSource.folder c.take_spans.new.logs) c.args.spans.now
    c.in_ok-page.page c.take_spans.new.page c.open_page.new.stage c.take_spans.new.out (λ s. HasRows kind c.open_page.new.output c.args.stage.now [] s) (λ asked out. IsRefused asked out why) (asked_of c.open_page.new.output) (asked_of c.args.output) c.open_page.ensures.asked
    opened.groups opened.picker opened.plan c.in-Ok-take_spans.ensures.takes opened.has (is c.args.stage.now)) refused) c.end_page.ensures.refused

pub returns-in-Ok-take_spans-clause-early : goal.returns-in-Ok-take_spans-clause-early
returns-in-Ok-take_spans-clause-early g c =
    let format = g.R.LineReader.format c.args.reader.now in
    let told = g.L.LogSource.folder c.take_spans.new.logs in
    let within : IsWithin c.args.most_bad c.take_spans.new.page.bad =
    subst (λ (most : Option ℕ). IsWithin most c.take_spans.new.page.bad) (c.take_spans.ensures.most ∙ c.in_ok-page.ensures.most) c.in-Ok-take_spans.ensures.within in
    let Within : Folder → Type 0 = λ folder. IsWithin c.args.most_bad (length (spans_bad format c.args.waits folder c.args.spans.now)) in
    let all : Told told (λ folder. AreKept format c.args.waits c.args.spans.now folder → Within folder) =
    bad_within _ format c.args.waits told c.args.spans.now c.in_ok-page.page c.take_spans.new.page c.open_page.new.stage c.take_spans.new.out c.args.most_bad within c.in_ok-page.ensures.bad c.in-Ok-take_spans.ensures.takes in
    IfErr-weaker c.end_page.result _ _ (λ fault refused. refused_so fault _ _ (λ why is.
    told_map told (λ folder. AreKept format c.args.waits c.args.spans.now folder → Within folder) (λ folder. AreKept format c.args.waits c.args.spans.now folder → IsRefused (asked_of c.args.output) [] why ⊎ Within folder)
    (λ folder all kept. inr (all kept)) all) refused) c.end_page.ensures.refused

pub returns-in-Ok-take_spans-clause-named : goal.returns-in-Ok-take_spans-clause-named
returns-in-Ok-take_spans-clause-named g c = bad_each c.end_page.result (λ line. (why : Refused) → IsRefused (asked_of c.args.output) [] why → ⊥) (λ line. c.in_ok-page.ensures.named)

pub returns-in-Ok-take_spans-clause-too_many : goal.returns-in-Ok-take_spans-clause-too_many
returns-in-Ok-take_spans-clause-too_many g c =
    let format = g.R.LineReader.format c.args.reader.now in
    let told = g.L.LogSource.folder c.take_spans.new.logs in
    let Of : BadLine → Type 0 = λ line. Told told (λ folder. AreKept format c.args.waits c.args.spans.now folder → IsTooMany c.args.most_bad 0 (spans_bad_lines format c.args.waits folder c.args.spans.now) line) in
    IfErr-weaker c.end_page.result _ _ (λ fault good. bad_so fault (λ line. ⊥) Of (λ line none. absurd none) good) c.end_page.ensures.good

pub returns-in-Ok-take_spans-clause-processed : goal.returns-in-Ok-take_spans-clause-processed
returns-in-Ok-take_spans-clause-processed g c =
    IfOk-weaker c.end_page.result _ _ (λ written same.
    rows_taken _ (g.R.LineReader.format c.args.reader.now) c.args.waits (g.L.LogSource.folder c.take_spans.new.logs) c.args.spans.now c.in_ok-page.page c.take_spans.new.page c.open_page.new.stage c.take_spans.new.out
    written.counts.processed same c.in_ok-page.ensures.rows c.in-Ok-take_spans.ensures.takes) c.end_page.ensures.processed

pub returns-in-Ok-take_spans-clause-bad : goal.returns-in-Ok-take_spans-clause-bad
returns-in-Ok-take_spans-clause-bad g c =
    IfOk-weaker c.end_page.result _ _ (λ written same.
    bad_taken _ (g.R.LineReader.format c.args.reader.now) c.args.waits (g.L.LogSource.folder c.take_spans.new.logs) c.args.spans.now c.in_ok-page.page c.take_spans.new.page c.open_page.new.stage c.take_spans.new.out
    written.counts.bad same c.in_ok-page.ensures.bad c.in-Ok-take_spans.ensures.takes) c.end_page.ensures.bad

pub returns-in-Ok-take_spans-clause-within : goal.returns-in-Ok-take_spans-clause-within
returns-in-Ok-take_spans-clause-within g c =
    IfOk-weaker c.end_page.result _ _ (λ written same.
    subst (λ (bad : ℕ). IsWithin c.args.most_bad bad) (sym same) (subst (λ (most : Option ℕ). IsWithin most c.take_spans.new.page.bad) (c.take_spans.ensures.most ∙ c.in_ok-page.ensures.most) c.in-Ok-take_spans.ensures.within)) c.end_page.ensures.bad

pub returns-in_err-page-clause-reached : goal.returns-in_err-page-clause-reached
returns-in_err-page-clause-reached g c =
    let format = g.R.LineReader.format c.args.reader.now in
    let told = g.L.LogSource.folder c.args.logs.now in
    let Of : BadLine → Type 0 = λ line. Told told (λ folder. AreKept format c.args.waits c.args.spans.now folder → IsReached c.args.most_bad format c.args.waits folder c.args.spans.now line) in
    handed_on c.from_residual.result _ (OnBad Of) c.from_residual.ensures.1 (bad_so _ (λ line. ⊥) Of (λ line none. absurd none) c.in_err-page.ensures.good)

pub returns-clause-reached : goal.returns-clause-reached
returns-clause-reached g c =
    let format = g.R.LineReader.format c.args.reader.now in
    let told = g.L.LogSource.folder c.take_spans.new.logs in
    let Of : BadLine → Type 0 = λ line. Told told (λ folder. AreKept format c.args.waits c.args.spans.now folder → IsReached c.args.most_bad format c.args.waits folder c.args.spans.now line) in
    subst (OnBad Of) (sym c.stopped_in.ensures) (bad_in c.in-Err.fault None Of
    (bad_line_so _ _ Of (λ line t. reached _ format c.args.waits told c.args.spans.now line c.in_ok-page.page c.take_spans.new.page _ _ c.args.most_bad c.in_ok-page.ensures.bad c.in_ok-page.ensures.most t)
    c.in-Err.ensures.behind))

pub returns-in-Ok-take_spans-clause-reached : goal.returns-in-Ok-take_spans-clause-reached
returns-in-Ok-take_spans-clause-reached g c =
    let format = g.R.LineReader.format c.args.reader.now in
    let told = g.L.LogSource.folder c.take_spans.new.logs in
    let Of : BadLine → Type 0 = λ line. Told told (λ folder. AreKept format c.args.waits c.args.spans.now folder → IsReached c.args.most_bad format c.args.waits folder c.args.spans.now line) in
    IfErr-weaker c.end_page.result _ _ (λ fault good. bad_so fault (λ line. ⊥) Of (λ line none. absurd none) good) c.end_page.ensures.good
