use Rattle.std.proofs.Common.{List, [], ◌∷◌, ◌++◌, refl, ap, arith}
use Rattle.lp_model.proofs.Results.{on_err}
use Rattle.order_top.specs.Finish.{Row, finished}
use Rattle.text_output.specs.Output.{kind_of}
use Rattle.row_output.specs.declared.fault.Refused.{Refused}
use Rattle.row_output.specs.Kept.{HasKept, HasRows, asked_of}
use Rattle.row_output.specs.Orders.{IsPlain}
use Rattle.row_output.specs.Rows.{IsRefused, IsRefusedAt, IsRefusedEarly}
use Rattle.row_output.specs.Sinks.{Purpose, files_in}
use Rattle.row_output.proofs.Early.{put_early}
use Rattle.row_output.proofs.KeptCalls.{asked_for, rows_have, rows_little, rows_stop_at, rows_refused, one_more, never_err}
use Rattle.row_output.proofs.SinkCalls.{refused_on}
use Rattle.row_output.proofs.kept.RowOutput.put.Goals as goal

pub take-requires : goal.take-requires
take-requires g c = let few = c.args.self.now.few in omega arith

pub returns-in_err-take-clause-asked : goal.returns-in_err-take-clause-asked
returns-in_err-take-clause-asked g c = ap (λ (p : Purpose). asked_for p c.args.self.now.order) c.take.ensures.purpose

pub returns-in_err-take-clause-stop : goal.returns-in_err-take-clause-stop
returns-in_err-take-clause-stop g c = on_err _ c.from_residual.result (λ start rows more has.
    rows_stop_at (kind_of g.G.Stage.state g.G.Stage.ended) c.args.self.now c.args.stage.now c.take.new.stage start rows (rows ++ (c.args.row.now ∷ more)) (c.in_err-take.ensures.stop start rows more) has)

pub returns-in_err-take-clause-refused : goal.returns-in_err-take-clause-refused
returns-in_err-take-clause-refused g c =
    let kind = kind_of g.G.Stage.state g.G.Stage.ended in
    let o = c.args.self.now in
    refused_on (λ (why : Refused). (start : _) (rows more : List Row) → HasKept kind o.kept o.order o.sink start rows c.args.stage.now → IsRefusedAt (files_in o.sink) (finished o.order (rows ++ (c.args.row.now ∷ more))) why)
    (λ (why : Refused). (start : _) (rows more : List Row) → HasRows kind o start rows c.args.stage.now → IsRefused (asked_of o) (rows ++ (c.args.row.now ∷ more)) why)
    c.from_residual.result _ c.from_residual.ensures.1
    (λ why so start rows more has. rows_refused kind o c.args.stage.now c.take.new.stage start rows (rows ++ (c.args.row.now ∷ more)) why (so start rows more) has)
    c.in_err-take.ensures.refused

pub returns-in_err-take-clause-early : goal.returns-in_err-take-clause-early
returns-in_err-take-clause-early g c =
    let kind = kind_of g.G.Stage.state g.G.Stage.ended in
    let o = c.args.self.now in
    refused_on (λ (why : Refused). (start : _) (rows : List Row) → HasKept kind o.kept o.order o.sink start rows c.args.stage.now → IsPlain o.order)
    (λ (why : Refused). (start : _) (rows : List Row) → HasRows kind o start rows c.args.stage.now → IsRefusedEarly (asked_of o) why)
    c.from_residual.result _ c.from_residual.ensures.1
    (λ why so start rows has. put_early kind o start rows c.args.stage.now why (so start rows) has)
    c.in_err-take.ensures.early

pub returns-in_err-take-clause-uncounted : goal.returns-in_err-take-clause-uncounted
returns-in_err-take-clause-uncounted g c = on_err _ c.from_residual.result refl

pub returns-in_err-take-clause-past : goal.returns-in_err-take-clause-past
returns-in_err-take-clause-past g c = λ goes. absurd (never_err (c.in_err-take.ensures.past goes).0)

pub returns-in_err-take-clause-known : goal.returns-in_err-take-clause-known
returns-in_err-take-clause-known g c = λ is. absurd (never_err (c.in_err-take.ensures.known is).0)

pub returns-clause-past : goal.returns-clause-past
returns-clause-past g c = λ goes. (refl, (c.in_ok-take.ensures.past goes).1)

pub returns-clause-known : goal.returns-clause-known
returns-clause-known g c = λ is. (refl, (c.in_ok-take.ensures.known is).1)

pub returns-clause-asked : goal.returns-clause-asked
returns-clause-asked g c = ap (λ (p : Purpose). asked_for p c.args.self.now.order) c.take.ensures.purpose

pub returns-clause-has : goal.returns-clause-has
returns-clause-has g c = λ start rows has.
    rows_have (kind_of g.G.Stage.state g.G.Stage.ended) c.args.self.now c.args.stage.now c.take.new.stage _ start rows (rows ++ c.args.row.now ∷ []) (c.in_ok-take.ensures.has start rows) (one_more c.args.self.now.put rows c.args.row.now) has

pub returns-clause-little : goal.returns-clause-little
returns-clause-little g c = λ keeps start rows has.
    rows_little (kind_of g.G.Stage.state g.G.Stage.ended) c.args.self.now c.args.stage.now c.take.new.stage c.take.new.sink start rows (c.in_ok-take.ensures.little keeps start rows) has
