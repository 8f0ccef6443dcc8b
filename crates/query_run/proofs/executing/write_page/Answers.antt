use Rattle.std.proofs.Common.{◌≡◌, ◌⊎◌, [], ℕ, List, length, Err, Option, IsSome, IfSome, inl, refl, ap, sym, ◌∙◌, subst}
use Rattle.std.proofs.lemmas.Result.{IfOk-weaker, IfErr-weaker, on_err_weaker}
use Rattle.lp_model.specs.Outside.{Folder, Told}
use Rattle.lp_model.proofs.Growing.{OnlyGrow-refl}
use Rattle.lp_values.specs.declared.value.Value.{Value}
use Rattle.log_reading.specs.Found.{Found}
use Rattle.log_reading.specs.Page.{IsTooMany, IsWithin}
use Rattle.log_reading.specs.Spans.{AreKept, BadLine, spans_found, spans_bad, spans_bad_lines}
use Rattle.log_reading.proofs.Faults.{bad_line_so}
use Rattle.text_output.specs.Output.{kind_of}
use Rattle.row_output.specs.Asked.{left_of}
use Rattle.row_output.specs.Kept.{asked_of}
use Rattle.row_output.specs.Rows.{Holds, IsRefused, Stops}
use Rattle.row_output.specs.declared.fault.Refused.{Refused}
use Rattle.query_run.specs.Faults.{OnBad, OnRefusedOutput}
use Rattle.query_run.specs.InTurn.{BadInTurn, RefusedInTurn}
use Rattle.query_run.specs.Rows.{picked}
use Rattle.query_run.specs.declared.fault.WriteFault.TheVariants as W
use Rattle.query_run.proofs.Reasons.{bad_in, bad_so, logs_in, refused_in, refused_so}
use Rattle.query_run.proofs.WholeRun.{told_all, told_both, stop_there, stops_in, refused_in_spans, turned_in_spans, placed_in_spans, last_in_turn, ends_with, rows_taken, bad_taken, bad_within}
use Rattle.query_run.proofs.ReadAhead.{goes_ahead}
use Rattle.query_run.proofs.executing.write_page.Goals as goal

pub returns-in_default-clause-grows : goal.returns-in_default-clause-grows
returns-in_default-clause-grows g c = OnlyGrow-refl _

pub returns-in_default-clause-stops : goal.returns-in_default-clause-stops
returns-in_default-clause-stops g c = λ output picker first s.
    let kind = kind_of g.G.Stage.state g.G.Stage.ended in
    let format = g.R.LineReader.format c.args.reader.now in
    let rows : Folder → List (List Value) = λ folder. picked (g.P.Picker.picks picker) (spans_found format c.args.waits folder c.args.spans.now) in
    told_all _ (λ folder. AreKept format c.args.waits c.args.spans.now folder → Stops kind (asked_of output) first (rows folder) c.args.stage.now)
    (λ folder kept. stop_there kind output picker first c.args.page.now.taker c.args.stage.now (rows folder) s)

pub stopped_in-requires : goal.stopped_in-requires
stopped_in-requires g c = λ e. subst (λ (o : Option Refused). IsSome o) (sym c.replace.ensures.value) (c.in-Err.ensures.stopped (ap (λ f. Err f) e))

pub returns-clause-stops : goal.returns-clause-stops
returns-clause-stops g c = λ output picker first s.
    stops_in (kind_of g.G.Stage.state g.G.Stage.ended) output picker first g.P.Picker.picks (g.R.LineReader.format c.args.reader.now) c.args.waits (g.L.LogSource.folder c.take_spans.new.logs) c.args.spans.now
    c.args.page.now c.take_spans.new.page c.args.stage.now c.take_spans.new.out s c.in-Err.ensures.stops

pub returns-clause-refused : goal.returns-clause-refused
returns-clause-refused g c = λ output picker first s.
    let format = g.R.LineReader.format c.args.reader.now in
    let told = g.L.LogSource.folder c.take_spans.new.logs in
    let Q : Refused → Type 0 = λ why. Told told (λ folder. AreKept format c.args.waits c.args.spans.now folder → IsRefused (asked_of output) (picked (g.P.Picker.picks picker) (spans_found format c.args.waits folder c.args.spans.now)) why) in
    subst (OnRefusedOutput Q) (sym c.stopped_in.ensures) (refused_in c.in-Err.fault c.replace.result Q
    (subst (λ (o : Option Refused). IfSome o Q) (sym c.replace.ensures.value)
    (refused_in_spans (kind_of g.G.Stage.state g.G.Stage.ended) output picker first g.P.Picker.picks format c.args.waits told c.args.spans.now
    c.args.page.now c.take_spans.new.page c.args.stage.now c.take_spans.new.out s c.in-Err.ensures.stops)))

pub returns-clause-in_turn : goal.returns-clause-in_turn
returns-clause-in_turn g c = λ output picker first s.
    let page = c.args.page.now in
    let format = g.R.LineReader.format c.args.reader.now in
    let told = g.L.LogSource.folder c.take_spans.new.logs in
    let Q : Refused → Type 0 = λ why. Told told (λ folder. AreKept format c.args.waits c.args.spans.now folder → RefusedInTurn (asked_of output) (picked (g.P.Picker.picks picker)) page.most_bad 0 format c.args.waits folder c.args.spans.now why) in
    subst (OnRefusedOutput Q) (sym c.stopped_in.ensures) (refused_in c.in-Err.fault c.replace.result Q
    (subst (λ (o : Option Refused). IfSome o Q) (sym c.replace.ensures.value)
    (turned_in_spans (kind_of g.G.Stage.state g.G.Stage.ended) output picker first g.P.Picker.picks format c.args.waits told c.args.spans.now
    page c.take_spans.new.page c.args.stage.now c.take_spans.new.out c.requires.bad s c.in-Err.ensures.in_turn)))

pub returns-clause-placed : goal.returns-clause-placed
returns-clause-placed g c = λ output picker first s named.
    let page = c.args.page.now in
    let format = g.R.LineReader.format c.args.reader.now in
    let told = g.L.LogSource.folder c.take_spans.new.logs in
    let Of : BadLine → Type 0 = λ line. Told told (λ folder. AreKept format c.args.waits c.args.spans.now folder → BadInTurn (asked_of output) (picked (g.P.Picker.picks picker)) page.most_bad 0 format c.args.waits folder c.args.spans.now line) in
    subst (OnBad Of) (sym c.stopped_in.ensures) (bad_in c.in-Err.fault c.replace.result Of
    (bad_line_so _ _ Of
    (λ line took. placed_in_spans (kind_of g.G.Stage.state g.G.Stage.ended) output picker first g.P.Picker.picks format c.args.waits told c.args.spans.now
    page c.take_spans.new.page c.args.stage.now c.take_spans.new.out line c.requires.bad s named took)
    c.in-Err.ensures.behind))

pub returns-clause-too_many : goal.returns-clause-too_many
returns-clause-too_many g c =
    let page = c.args.page.now in
    let format = g.R.LineReader.format c.args.reader.now in
    let told = g.L.LogSource.folder c.take_spans.new.logs in
    let Of : Option ℕ → ℕ → BadLine → Type 0 = λ most bad line. Told told (λ folder. AreKept format c.args.waits c.args.spans.now folder → IsTooMany most bad (spans_bad_lines format c.args.waits folder c.args.spans.now) line) in
    subst (OnBad (Of page.most_bad 0)) (sym c.stopped_in.ensures) (bad_in c.in-Err.fault c.replace.result (Of page.most_bad 0)
    (bad_line_so _ _ (Of page.most_bad 0)
    (λ line s. subst (λ (bad : ℕ). Of page.most_bad bad line) c.requires.bad s)
    c.in-Err.ensures.too_many))

pub returns-clause-logs : goal.returns-clause-logs
returns-clause-logs g c = λ e.
    let is : c.stopped_in.result ≡ W.Logs = cc in
    c.in-Err.ensures.logs (ap (λ f. Err f) (logs_in c.in-Err.fault c.replace.result (sym c.stopped_in.ensures ∙ is)))

pub returns-in-Ok-take_spans-clause-holds : goal.returns-in-Ok-take_spans-clause-holds
returns-in-Ok-take_spans-clause-holds g c =
    let kind = kind_of g.G.Stage.state g.G.Stage.ended in
    let format = g.R.LineReader.format c.args.reader.now in
    let told = g.L.LogSource.folder c.take_spans.new.logs in
    IfOk-weaker c.end_page.result _ _ (λ written holds output picker first s.
    ends_with kind output picker first g.P.Picker.picks format c.args.waits told c.args.spans.now
    c.args.page.now c.take_spans.new.page c.args.stage.now c.take_spans.new.out (λ asked rows. Holds kind asked first rows written.outputs c.end_page.new.stage) s
    c.in-Ok-take_spans.ensures.takes (holds first)) c.end_page.ensures.holds

pub returns-in-Ok-take_spans-clause-output : goal.returns-in-Ok-take_spans-clause-output
returns-in-Ok-take_spans-clause-output g c =
    let kind = kind_of g.G.Stage.state g.G.Stage.ended in
    let format = g.R.LineReader.format c.args.reader.now in
    let told = g.L.LogSource.folder c.take_spans.new.logs in
    IfOk-weaker c.end_page.result _ _ (λ written many output picker first s.
    ends_with kind output picker first g.P.Picker.picks format c.args.waits told c.args.spans.now
    c.args.page.now c.take_spans.new.page c.args.stage.now c.take_spans.new.out (λ asked rows. written.counts.output ≡ length (left_of asked rows)) s
    c.in-Ok-take_spans.ensures.takes (many first)) c.end_page.ensures.output

pub returns-in-Ok-take_spans-clause-stops : goal.returns-in-Ok-take_spans-clause-stops
returns-in-Ok-take_spans-clause-stops g c =
    let kind = kind_of g.G.Stage.state g.G.Stage.ended in
    let format = g.R.LineReader.format c.args.reader.now in
    let told = g.L.LogSource.folder c.take_spans.new.logs in
    on_err_weaker c.end_page.result (λ stops output picker first s.
    ends_with kind output picker first g.P.Picker.picks format c.args.waits told c.args.spans.now
    c.args.page.now c.take_spans.new.page c.args.stage.now c.take_spans.new.out (λ asked rows. Stops kind asked first rows c.end_page.new.stage) s
    c.in-Ok-take_spans.ensures.takes (stops first)) c.end_page.ensures.stops

pub returns-in-Ok-take_spans-clause-refused : goal.returns-in-Ok-take_spans-clause-refused
returns-in-Ok-take_spans-clause-refused g c =
    let kind = kind_of g.G.Stage.state g.G.Stage.ended in
    let format = g.R.LineReader.format c.args.reader.now in
    let told = g.L.LogSource.folder c.take_spans.new.logs in
    IfErr-weaker c.end_page.result _ _ (λ fault refused output picker first s. refused_so fault _ _ (λ why is.
    ends_with kind output picker first g.P.Picker.picks format c.args.waits told c.args.spans.now
    c.args.page.now c.take_spans.new.page c.args.stage.now c.take_spans.new.out (λ asked rows. IsRefused asked rows why) s
    c.in-Ok-take_spans.ensures.takes (is first)) refused) c.end_page.ensures.refused

pub returns-in-Ok-take_spans-clause-in_turn : goal.returns-in-Ok-take_spans-clause-in_turn
returns-in-Ok-take_spans-clause-in_turn g c =
    let page = c.args.page.now in
    let kind = kind_of g.G.Stage.state g.G.Stage.ended in
    let format = g.R.LineReader.format c.args.reader.now in
    let told = g.L.LogSource.folder c.take_spans.new.logs in
    let within : IsWithin page.most_bad c.take_spans.new.page.bad = subst (λ (most : Option ℕ). IsWithin most c.take_spans.new.page.bad) c.take_spans.ensures.most c.in-Ok-take_spans.ensures.within in
    let Within : Folder → Type 0 = λ folder. AreKept format c.args.waits c.args.spans.now folder → IsWithin page.most_bad (length (spans_bad format c.args.waits folder c.args.spans.now)) in
    let all : Told told Within =
    bad_within _ format c.args.waits told c.args.spans.now page c.take_spans.new.page c.args.stage.now c.take_spans.new.out page.most_bad within c.requires.bad c.in-Ok-take_spans.ensures.takes in
    IfErr-weaker c.end_page.result _ _ (λ fault refused output picker first s. refused_so fault _ _ (λ why is.
    let rows : List Found → List (List Value) = picked (g.P.Picker.picks picker) in
    told_both told (λ folder. AreKept format c.args.waits c.args.spans.now folder → IsRefused (asked_of output) (rows (spans_found format c.args.waits folder c.args.spans.now)) why) Within
    (λ folder. AreKept format c.args.waits c.args.spans.now folder → RefusedInTurn (asked_of output) rows page.most_bad 0 format c.args.waits folder c.args.spans.now why)
    (λ folder refused few kept. last_in_turn (asked_of output) rows page.most_bad format c.args.waits folder c.args.spans.now why (refused kept) (few kept))
    (ends_with kind output picker first g.P.Picker.picks format c.args.waits told c.args.spans.now
    page c.take_spans.new.page c.args.stage.now c.take_spans.new.out (λ asked rows. IsRefused asked rows why) s
    c.in-Ok-take_spans.ensures.takes (is first)) all) refused) c.end_page.ensures.refused

pub returns-in-Ok-take_spans-clause-placed : goal.returns-in-Ok-take_spans-clause-placed
returns-in-Ok-take_spans-clause-placed g c =
    let page = c.args.page.now in
    let format = g.R.LineReader.format c.args.reader.now in
    let told = g.L.LogSource.folder c.take_spans.new.logs in
    IfErr-weaker c.end_page.result _ _ (λ fault good output picker first s named. bad_so fault (λ line. ⊥)
    (λ line. Told told (λ folder. AreKept format c.args.waits c.args.spans.now folder → BadInTurn (asked_of output) (picked (g.P.Picker.picks picker)) page.most_bad 0 format c.args.waits folder c.args.spans.now line))
    (λ line none. absurd none) good) c.end_page.ensures.good

pub returns-in-Ok-take_spans-clause-too_many : goal.returns-in-Ok-take_spans-clause-too_many
returns-in-Ok-take_spans-clause-too_many g c =
    let page = c.args.page.now in
    let format = g.R.LineReader.format c.args.reader.now in
    let told = g.L.LogSource.folder c.take_spans.new.logs in
    let Of : BadLine → Type 0 = λ line. Told told (λ folder. AreKept format c.args.waits c.args.spans.now folder → IsTooMany page.most_bad 0 (spans_bad_lines format c.args.waits folder c.args.spans.now) line) in
    IfErr-weaker c.end_page.result _ _ (λ fault good. bad_so fault (λ line. ⊥) Of (λ line none. absurd none) good) c.end_page.ensures.good

pub returns-in-Ok-take_spans-clause-processed : goal.returns-in-Ok-take_spans-clause-processed
returns-in-Ok-take_spans-clause-processed g c =
    IfOk-weaker c.end_page.result _ _ (λ written same.
    rows_taken _ (g.R.LineReader.format c.args.reader.now) c.args.waits (g.L.LogSource.folder c.take_spans.new.logs) c.args.spans.now
    c.args.page.now c.take_spans.new.page c.args.stage.now c.take_spans.new.out written.counts.processed same c.requires.rows c.in-Ok-take_spans.ensures.takes) c.end_page.ensures.processed

pub returns-in-Ok-take_spans-clause-bad : goal.returns-in-Ok-take_spans-clause-bad
returns-in-Ok-take_spans-clause-bad g c =
    IfOk-weaker c.end_page.result _ _ (λ written same.
    bad_taken _ (g.R.LineReader.format c.args.reader.now) c.args.waits (g.L.LogSource.folder c.take_spans.new.logs) c.args.spans.now
    c.args.page.now c.take_spans.new.page c.args.stage.now c.take_spans.new.out written.counts.bad same c.requires.bad c.in-Ok-take_spans.ensures.takes) c.end_page.ensures.bad

pub returns-in-Ok-take_spans-clause-within : goal.returns-in-Ok-take_spans-clause-within
returns-in-Ok-take_spans-clause-within g c =
    IfOk-weaker c.end_page.result _ _ (λ written same.
    subst (λ (bad : ℕ). IsWithin c.args.page.now.most_bad bad) (sym same) (subst (λ (most : Option ℕ). IsWithin most c.take_spans.new.page.bad) c.take_spans.ensures.most c.in-Ok-take_spans.ensures.within)) c.end_page.ensures.bad

pub returns-in_default-clause-ahead : goal.returns-in_default-clause-ahead
returns-in_default-clause-ahead g c = λ output picker first s. inl refl

pub returns-clause-ahead : goal.returns-clause-ahead
returns-clause-ahead g c = λ output picker first s.
    goes_ahead (kind_of g.G.Stage.state g.G.Stage.ended) g.G.Stage.goes g.P.Picker.picks output picker first c.args.stage.now c.take_spans.new.out c.take_spans.new.out (g.R.LineReader.format c.args.reader.now) c.args.waits (g.L.LogSource.folder c.take_spans.new.logs) c.args.spans.now _ _ _ c.args.page.now.taker
    (ap length c.deref_mut.ensures.value ∙ c.in-Ok.ensures) (λ v later. later) s c.take_spans.ensures.ahead

pub returns-in-Ok-take_spans-clause-ahead : goal.returns-in-Ok-take_spans-clause-ahead
returns-in-Ok-take_spans-clause-ahead g c = λ output picker first s.
    goes_ahead (kind_of g.G.Stage.state g.G.Stage.ended) g.G.Stage.goes g.P.Picker.picks output picker first c.args.stage.now c.take_spans.new.out c.end_page.new.stage (g.R.LineReader.format c.args.reader.now) c.args.waits (g.L.LogSource.folder c.take_spans.new.logs) c.args.spans.now _ _ _ c.args.page.now.taker
    (ap length c.deref_mut.ensures.value ∙ c.in-Ok.ensures) (λ v later. g.met.G.Stage.goes_on v c.take_spans.new.out c.end_page.new.stage later c.end_page.ensures.goes) s c.take_spans.ensures.ahead
