use Rattle.std.proofs.Common.{◌≡◌, [], Err, IsSome, Option, ap, sym, ◌∙◌, subst}
use Rattle.text_output.specs.Output.{kind_of}
use Rattle.row_output.specs.Kept.{HasRows, asked_of}
use Rattle.row_output.specs.Rows.{IsRefused}
use Rattle.row_output.specs.declared.fault.Refused.{Refused}
use Rattle.row_output.specs.declared.kept.RowOutput.{RowOutput}
use Rattle.row_output.proofs.Stopping.{new_has}
use Rattle.query_run.specs.Faults.{OnBad, OnRefusedOutput}
use Rattle.query_run.specs.declared.fault.WriteFault.TheVariants as W
use Rattle.query_run.proofs.Reasons.{bad_at, logs_at, output_at, refused_at}
use Rattle.query_run.proofs.WholeRun.{starts_new, starts_open, starts_as, stop_at_once, refused_at_once}
use Rattle.query_run.proofs.executing.open_page.Goals as goal

pub stopped_at-requires : goal.stopped_at-requires
stopped_at-requires g c = λ e. subst (λ (o : Option Refused). IsSome o) (sym c.replace.ensures.value) (c.in-Err.ensures.stopped (ap (λ f. Err f) e))

pub returns-in-Ok-clause-starts : goal.returns-in-Ok-clause-starts
returns-in-Ok-clause-starts g c =
    let kind = kind_of g.G.Stage.state g.G.Stage.ended in
    let made = c.new-writer.ensures in
    starts_as kind c.args.output c.args.picker c.args.stage.now c.begin.new.self c.first_page.result.taker c.begin.new.stage c.first_page.ensures.taker
    (starts_open kind c.args.output c.args.picker c.args.stage.now c.new-writer.result c.begin.new.self c.args.stage.now c.begin.new.stage
    (starts_new kind c.args.output c.args.picker c.args.stage.now c.new-writer.result c.requires made.output made.picker made.refused) c.in-Ok.ensures.takes)

pub returns-in-Ok-clause-taken : goal.returns-in-Ok-clause-taken
returns-in-Ok-clause-taken g c = ap (λ w. w.taken) c.first_page.ensures.taker ∙ (c.begin.ensures.taken ∙ c.new-writer.ensures.taken)

pub returns-in-Err-clause-stops : goal.returns-in-Err-clause-stops
returns-in-Err-clause-stops g c = λ rows.
    let kind = kind_of g.G.Stage.state g.G.Stage.ended in
    let made = c.new-writer.ensures in
    stop_at_once kind c.args.output c.args.picker c.args.stage.now c.new-writer.result c.begin.new.self c.args.stage.now c.begin.new.stage rows
    (starts_new kind c.args.output c.args.picker c.args.stage.now c.new-writer.result c.requires made.output made.picker made.refused) c.in-Err.ensures.stops

pub returns-in-Err-clause-refused : goal.returns-in-Err-clause-refused
returns-in-Err-clause-refused g c =
    let kind = kind_of g.G.Stage.state g.G.Stage.ended in
    let made = c.new-writer.ensures in
    let Q : Refused → Type 0 = λ why. (rows : _) → IsRefused (asked_of c.args.output) rows why in
    subst (OnRefusedOutput Q) (sym c.stopped_at.ensures) (refused_at c.in-Err.fault c.replace.result Q
    (refused_at_once kind c.args.output c.args.picker c.args.stage.now c.new-writer.result c.begin.new.self c.args.stage.now c.begin.new.stage c.replace.result c.replace.ensures.value
    (starts_new kind c.args.output c.args.picker c.args.stage.now c.new-writer.result c.requires made.output made.picker made.refused) c.in-Err.ensures.stops))

pub returns-in-Err-clause-good : goal.returns-in-Err-clause-good
returns-in-Err-clause-good g c = subst (OnBad (λ line. ⊥)) (sym c.stopped_at.ensures) (bad_at c.in-Err.fault c.replace.result (λ line. ⊥))

pub returns-in-Err-clause-logs : goal.returns-in-Err-clause-logs
returns-in-Err-clause-logs g c = λ e.
    let is : c.stopped_at.result ≡ W.Logs = cc in
    logs_at c.in-Err.fault c.replace.result (sym c.stopped_at.ensures ∙ is)

pub returns-in-Err-clause-sink : goal.returns-in-Err-clause-sink
returns-in-Err-clause-sink g c = λ e.
    let is : c.stopped_at.result ≡ W.Output = cc in
    c.in-Err.ensures.failed (ap (λ f. Err f) (output_at c.in-Err.fault c.replace.result (sym c.stopped_at.ensures ∙ is)))

pub returns-in-Ok-clause-named : goal.returns-in-Ok-clause-named
returns-in-Ok-clause-named g c =
    let made = c.new-writer.ensures in
    let start = c.args.stage.now in
    let new = subst (λ (o : RowOutput). HasRows (kind_of g.G.Stage.state g.G.Stage.ended) o start [] start) (sym made.output) (new_has (kind_of g.G.Stage.state g.G.Stage.ended) c.args.output start c.requires) in
    subst (λ (o : RowOutput). (why : Refused) → IsRefused (asked_of o) [] why → ⊥) made.output (c.in-Ok.ensures.named made.opened start new)
