use Rattle.std.proofs.Common.{[], ◌∷◌, OnOk, IfErr, sym, subst}
use Rattle.std.proofs.lemmas.Result.{on_ok_weaker}
use Rattle.text_output.specs.Output.{kind_of}
use Rattle.row_steps.specs.Rows.{Rows, PutsRows, StopsBy}
use Rattle.row_steps.proofs.Puts.{rows_none, stops_here, stops_put}
use Rattle.row_steps.proofs.handing.put_group.Goals as goal

pub returns-in-Err-clause-stops : goal.returns-in-Err-clause-stops
returns-in-Err-clause-stops g c = stops_here (kind_of g.G.Stage.state g.G.Stage.ended) _ c.args.output.now c.args.stage.now

pub returns-in-Ok-false-clause-puts : goal.returns-in-Ok-false-clause-puts
returns-in-Ok-false-clause-puts g c =
    let kind = kind_of g.G.Stage.state g.G.Stage.ended in
    let Of : Rows → Type 0 = λ rows. PutsRows kind rows c.args.output.now c.args.stage.now c.args.output.now c.args.stage.now in
    subst Of (sym (rw c.in-Ok-false.field-0-test at c.in-Ok-false.ensures)) (rows_none kind c.args.output.now c.args.stage.now)

pub returns-in-Ok-true-clause-puts : goal.returns-in-Ok-true-clause-puts
returns-in-Ok-true-clause-puts g c =
    let kind = kind_of g.G.Stage.state g.G.Stage.ended in
    let Of : Rows → Type 0 = λ rows. OnOk c.put.result (PutsRows kind rows c.args.output.now c.args.stage.now c.put.new.self c.put.new.stage) in
    subst Of (sym (rw c.in-Ok-true.field-0-test at c.in-Ok-true.ensures)) (on_ok_weaker c.put.result (λ has. record { has = has; asked = c.put.ensures.asked }) c.put.ensures.has)

pub returns-in-Ok-true-clause-stops : goal.returns-in-Ok-true-clause-stops
returns-in-Ok-true-clause-stops g c =
    let kind = kind_of g.G.Stage.state g.G.Stage.ended in
    let Of : Rows → Type 0 = λ rows. IfErr c.put.result (λ fault. StopsBy kind rows c.args.output.now c.args.stage.now fault c.put.new.stage) in
    subst Of (sym (rw c.in-Ok-true.field-0-test at c.in-Ok-true.ensures)) (stops_put kind (c.output_row.new.row ∷ []) c.args.output.now c.args.stage.now c.put.new.stage c.put.result c.put.ensures.stop c.put.ensures.refused)
