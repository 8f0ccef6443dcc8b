use Rattle.query_run.proofs.OnePass.{in_one_pass}
use Rattle.std.proofs.Common.{◌≡◌, inl, refl, ℕ, List, [], Option, IfErr, subst}
use Rattle.std.proofs.lemmas.Result.{IfOk-weaker, IfErr-weaker, on_err_weaker}
use Rattle.lp_model.specs.Outside.{Folder, Told}
use Rattle.lp_model.proofs.Growing.{OnlyGrow-refl}
use Rattle.lp_model.proofs.Results.{on_err}
use Rattle.lp_values.specs.declared.value.Value.{Value}
use Rattle.log_reading.specs.Found.{Found}
use Rattle.log_reading.specs.Page.{IsTooMany, IsWithin}
use Rattle.log_reading.specs.Spans.{AreKept, BadLine, spans_found, spans_bad_lines}
use Rattle.log_reading.proofs.Faults.{handed_on}
use Rattle.text_output.specs.Output.{kind_of}
use Rattle.row_output.specs.Kept.{asked_of}
use Rattle.row_output.specs.Rows.{IsRefused, Stops}
use Rattle.row_output.specs.declared.fault.Refused.{Refused}
use Rattle.query_run.specs.Faults.{OnBad, OnRefusedOutput}
use Rattle.query_run.specs.InTurn.{BadInTurn, RefusedInTurn}
use Rattle.query_run.specs.Rows.{picked}
use Rattle.query_run.proofs.Reasons.{bad_each, bad_so, refused_each, refused_so}
use Rattle.query_run.proofs.WholeRun.{first_in_turn, told_all}
use Rattle.query_run.proofs.executing.write_spans.Goals as goal

pub returns-in_err-page-clause-grows : goal.returns-in_err-page-clause-grows
returns-in_err-page-clause-grows g c = OnlyGrow-refl _

pub returns-in_err-page-clause-stops : goal.returns-in_err-page-clause-stops
returns-in_err-page-clause-stops g c =
    let kind = kind_of g.G.Stage.state g.G.Stage.ended in
    let format = g.R.LineReader.format c.args.reader.now in
    let rows : Folder → List (List Value) = λ folder. picked (g.P.Picker.picks c.args.picker) (spans_found format c.args.waits folder c.args.spans.now) in
    on_err _ c.from_residual.result
    (told_all _ (λ folder. AreKept format c.args.waits c.args.spans.now folder → Stops kind (asked_of c.args.output) c.args.stage.now (rows folder) c.open_page.new.stage) (λ folder kept. c.in_err-page.ensures.stops (rows folder)))

pub returns-in_err-page-clause-refused : goal.returns-in_err-page-clause-refused
returns-in_err-page-clause-refused g c =
    let format = g.R.LineReader.format c.args.reader.now in
    let told = g.L.LogSource.folder c.args.logs.now in
    let rows : Folder → List (List Value) = λ folder. picked (g.P.Picker.picks c.args.picker) (spans_found format c.args.waits folder c.args.spans.now) in
    let Q : Refused → Type 0 = λ why. Told told (λ folder. AreKept format c.args.waits c.args.spans.now folder → IsRefused (asked_of c.args.output) (rows folder) why) in
    handed_on c.from_residual.result _ (OnRefusedOutput Q) c.from_residual.ensures.1
    (refused_so _ _ Q (λ why is. told_all told (λ folder. AreKept format c.args.waits c.args.spans.now folder → IsRefused (asked_of c.args.output) (rows folder) why) (λ folder kept. is (rows folder))) c.in_err-page.ensures.refused)

pub returns-in_err-page-clause-in_turn : goal.returns-in_err-page-clause-in_turn
returns-in_err-page-clause-in_turn g c =
    let format = g.R.LineReader.format c.args.reader.now in
    let told = g.L.LogSource.folder c.args.logs.now in
    let rows : List Found → List (List Value) = picked (g.P.Picker.picks c.args.picker) in
    let Turn : Refused → Folder → Type 0 = λ why folder. AreKept format c.args.waits c.args.spans.now folder → RefusedInTurn (asked_of c.args.output) rows c.args.most_bad 0 format c.args.waits folder c.args.spans.now why in
    let Q : Refused → Type 0 = λ why. Told told (Turn why) in
    handed_on c.from_residual.result _ (OnRefusedOutput Q) c.from_residual.ensures.1
    (refused_so _ _ Q (λ why is. told_all told (Turn why) (λ folder kept. first_in_turn (asked_of c.args.output) rows c.args.most_bad format c.args.waits folder c.args.spans.now why is)) c.in_err-page.ensures.refused)

pub returns-in_err-page-clause-placed : goal.returns-in_err-page-clause-placed
returns-in_err-page-clause-placed g c =
    let format = g.R.LineReader.format c.args.reader.now in
    let told = g.L.LogSource.folder c.args.logs.now in
    let Of : BadLine → Type 0 = λ line. Told told (λ folder. AreKept format c.args.waits c.args.spans.now folder → BadInTurn (asked_of c.args.output) (picked (g.P.Picker.picks c.args.picker)) c.args.most_bad 0 format c.args.waits folder c.args.spans.now line) in
    handed_on c.from_residual.result _ (OnBad Of) c.from_residual.ensures.1 (bad_so _ (λ line. ⊥) Of (λ line none. absurd none) c.in_err-page.ensures.good)

pub returns-in_err-page-clause-unread : goal.returns-in_err-page-clause-unread
returns-in_err-page-clause-unread g c =
    refused_each c.from_residual.result (λ why. IsRefused (asked_of c.args.output) [] why → g.L.LogSource.given c.args.logs.now ≡ g.L.LogSource.given c.args.logs.now) (λ why is. refl)

pub returns-in_err-page-clause-too_many : goal.returns-in_err-page-clause-too_many
returns-in_err-page-clause-too_many g c =
    let format = g.R.LineReader.format c.args.reader.now in
    let told = g.L.LogSource.folder c.args.logs.now in
    let Of : BadLine → Type 0 = λ line. Told told (λ folder. AreKept format c.args.waits c.args.spans.now folder → IsTooMany c.args.most_bad 0 (spans_bad_lines format c.args.waits folder c.args.spans.now) line) in
    handed_on c.from_residual.result _ (OnBad Of) c.from_residual.ensures.1 (bad_so _ (λ line. ⊥) Of (λ line none. absurd none) c.in_err-page.ensures.good)

pub returns-clause-holds : goal.returns-clause-holds
returns-clause-holds g c = IfOk-weaker c.write_page-written.result _ _ (λ written holds. holds c.args.output c.args.picker c.args.stage.now c.in_ok-page.ensures.starts) c.write_page-written.ensures.holds

pub returns-clause-output : goal.returns-clause-output
returns-clause-output g c = IfOk-weaker c.write_page-written.result _ _ (λ written many. many c.args.output c.args.picker c.args.stage.now c.in_ok-page.ensures.starts) c.write_page-written.ensures.output

pub returns-clause-stops : goal.returns-clause-stops
returns-clause-stops g c = on_err_weaker c.write_page-written.result (λ stops. stops c.args.output c.args.picker c.args.stage.now c.in_ok-page.ensures.starts) c.write_page-written.ensures.stops

pub returns-clause-refused : goal.returns-clause-refused
returns-clause-refused g c = IfErr-weaker c.write_page-written.result _ _ (λ fault refused. refused c.args.output c.args.picker c.args.stage.now c.in_ok-page.ensures.starts) c.write_page-written.ensures.refused

pub returns-clause-in_turn : goal.returns-clause-in_turn
returns-clause-in_turn g c =
    let format = g.R.LineReader.format c.args.reader.now in
    let told = g.L.LogSource.folder c.write_page-written.new.logs in
    let Q : Option ℕ → Refused → Type 0 = λ most why. Told told (λ folder. AreKept format c.args.waits c.args.spans.now folder
    → RefusedInTurn (asked_of c.args.output) (picked (g.P.Picker.picks c.args.picker)) most 0 format c.args.waits folder c.args.spans.now why) in
    IfErr-weaker c.write_page-written.result _ _ (λ fault turn. subst (λ (most : Option ℕ). OnRefusedOutput (Q most) fault) c.in_ok-page.ensures.most
    (turn c.args.output c.args.picker c.args.stage.now c.in_ok-page.ensures.starts)) c.write_page-written.ensures.in_turn

pub returns-clause-placed : goal.returns-clause-placed
returns-clause-placed g c =
    let format = g.R.LineReader.format c.args.reader.now in
    let told = g.L.LogSource.folder c.write_page-written.new.logs in
    let Of : Option ℕ → BadLine → Type 0 = λ most line. Told told (λ folder. AreKept format c.args.waits c.args.spans.now folder
    → BadInTurn (asked_of c.args.output) (picked (g.P.Picker.picks c.args.picker)) most 0 format c.args.waits folder c.args.spans.now line) in
    IfErr-weaker c.write_page-written.result _ _ (λ fault placed. subst (λ (most : Option ℕ). OnBad (Of most) fault) c.in_ok-page.ensures.most
    (placed c.args.output c.args.picker c.args.stage.now c.in_ok-page.ensures.starts c.in_ok-page.ensures.named)) c.write_page-written.ensures.placed

pub returns-clause-unread : goal.returns-clause-unread
returns-clause-unread g c =
    refused_each c.write_page-written.result (λ why. IsRefused (asked_of c.args.output) [] why → g.L.LogSource.given c.write_page-written.new.logs ≡ g.L.LogSource.given c.args.logs.now)
    (λ why is. absurd (c.in_ok-page.ensures.named why is))

pub returns-clause-within : goal.returns-clause-within
returns-clause-within g c = IfOk-weaker c.write_page-written.result _ _ (λ written within. subst (λ (most : Option ℕ). IsWithin most written.counts.bad) c.in_ok-page.ensures.most within) c.write_page-written.ensures.within

pub returns-clause-too_many : goal.returns-clause-too_many
returns-clause-too_many g c =
    let format = g.R.LineReader.format c.args.reader.now in
    let told = g.L.LogSource.folder c.write_page-written.new.logs in
    let Of : Option ℕ → BadLine → Type 0 = λ most line. Told told (λ folder. AreKept format c.args.waits c.args.spans.now folder → IsTooMany most 0 (spans_bad_lines format c.args.waits folder c.args.spans.now) line) in
    subst (λ (most : Option ℕ). IfErr c.write_page-written.result (OnBad (Of most))) c.in_ok-page.ensures.most c.write_page-written.ensures.too_many

pub returns-in_err-page-clause-ahead : goal.returns-in_err-page-clause-ahead
returns-in_err-page-clause-ahead g c = inl refl

pub returns-clause-ahead : goal.returns-clause-ahead
returns-clause-ahead g c = c.write_page-written.ensures.ahead c.args.output c.args.picker c.args.stage.now c.in_ok-page.ensures.starts

pub returns-in_err-page-clause-named : goal.returns-in_err-page-clause-named
returns-in_err-page-clause-named g c =
    let Of : BadLine → Type 0 = λ line. (why : Refused) → IsRefused (asked_of c.args.output) [] why → ⊥ in
    handed_on c.from_residual.result _ (OnBad Of) c.from_residual.ensures.1 (bad_so _ (λ line. ⊥) Of (λ line none. absurd none) c.in_err-page.ensures.good)

pub returns-clause-named : goal.returns-clause-named
returns-clause-named g c = bad_each c.write_page-written.result (λ line. (why : Refused) → IsRefused (asked_of c.args.output) [] why → ⊥) (λ line. c.in_ok-page.ensures.named)
