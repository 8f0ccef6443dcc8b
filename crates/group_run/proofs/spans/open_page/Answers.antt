use Rattle.std.proofs.Common.{◌≡◌, [], ap, sym, ◌∙◌, subst, refl, Err}
use Rattle.std.proofs.lemmas.Result.{IfErr-at_err}
use Rattle.text_output.specs.Output.{kind_of}
use Rattle.row_output.specs.Kept.{asked_of}
use Rattle.row_output.specs.Rows.{IsRefused}
use Rattle.row_output.proofs.Stopping.{new_has, none_stops}
use Rattle.row_output.specs.declared.fault.Refused.{Refused}
use Rattle.query_run.specs.Faults.{OnBad, OnRefusedOutput}
use Rattle.query_run.specs.declared.fault.WriteFault.{WriteFault}
use Rattle.query_run.specs.declared.fault.WriteFault.TheVariants as W
use Rattle.query_run.proofs.Reasons.{bad_end, logs_end, output_end, refused_end}
use Rattle.row_steps.specs.Rows.{Rows}
use Rattle.group_run.proofs.spans.open_page.Goals as goal

pub returns-in_default-clause-stops : goal.returns-in_default-clause-stops
returns-in_default-clause-stops g c = λ rows. none_stops (kind_of g.G.Stage.state g.G.Stage.ended) c.args.output.now c.args.stage.now rows c.requires.new

pub returns-in-Ok-open-clause-has : goal.returns-in-Ok-open-clause-has
returns-in-Ok-open-clause-has g c = c.in-Ok-open.ensures.has c.args.stage.now [] (new_has (kind_of g.G.Stage.state g.G.Stage.ended) c.args.output.now c.args.stage.now c.requires.new)

pub returns-in-Ok-open-clause-opened : goal.returns-in-Ok-open-clause-opened
returns-in-Ok-open-clause-opened g c = c.in-Ok-open.ensures.opened c.args.stage.now [] (new_has (kind_of g.G.Stage.state g.G.Stage.ended) c.args.output.now c.args.stage.now c.requires.new)

pub returns-in-Ok-open-clause-named : goal.returns-in-Ok-open-clause-named
returns-in-Ok-open-clause-named g c = c.in-Ok-open.ensures.named c.args.stage.now [] (new_has (kind_of g.G.Stage.state g.G.Stage.ended) c.args.output.now c.args.stage.now c.requires.new)

pub returns-in-Err-clause-stops : goal.returns-in-Err-clause-stops
returns-in-Err-clause-stops g c = λ rows. c.in-Err.ensures.stop c.args.stage.now [] rows (new_has (kind_of g.G.Stage.state g.G.Stage.ended) c.args.output.now c.args.stage.now c.requires.new)

pub returns-in-Err-clause-refused : goal.returns-in-Err-clause-refused
returns-in-Err-clause-refused g c =
    let kind = kind_of g.G.Stage.state g.G.Stage.ended in
    let asked = asked_of c.args.output.now in
    let Q : Refused → Type 0 = λ why. (rows : Rows) → IsRefused asked rows why in
    subst (OnRefusedOutput Q) (sym c.ended_by.ensures)
    (refused_end c.in-Err.fault _ Q (λ why is rows. is c.args.stage.now [] rows (new_has kind c.args.output.now c.args.stage.now c.requires.new)) c.in-Err.ensures.refused)

pub returns-in-Err-clause-good : goal.returns-in-Err-clause-good
returns-in-Err-clause-good g c = subst (OnBad (λ line. ⊥)) (sym c.ended_by.ensures) (bad_end c.in-Err.fault (λ line. ⊥))

pub returns-in-Err-clause-logs : goal.returns-in-Err-clause-logs
returns-in-Err-clause-logs g c = λ e.
    let is : c.ended_by.result ≡ W.Logs = IfErr-at_err (λ (f : WriteFault). c.ended_by.result ≡ f) e refl in
    logs_end c.in-Err.fault (sym c.ended_by.ensures ∙ is)

pub returns-in-Err-clause-sink : goal.returns-in-Err-clause-sink
returns-in-Err-clause-sink g c = λ e.
    let is : c.ended_by.result ≡ W.Output = IfErr-at_err (λ (f : WriteFault). c.ended_by.result ≡ f) e refl in
    c.in-Err.ensures.failed (ap (λ f. Err f) (output_end c.in-Err.fault (sym c.ended_by.ensures ∙ is)))
