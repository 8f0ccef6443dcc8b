use Rattle.std.proofs.Common.{◌≡◌, List, [], length, sym, ◌∙◌, ap}
use Rattle.lp_model.proofs.Results.{on_err}
use Rattle.order_top.specs.Finish.{Finish, Row, finished}
use Rattle.text_output.specs.Output.{kind_of}
use Rattle.row_output.specs.declared.fault.Refused.{Refused}
use Rattle.row_output.specs.Kept.{HasKept}
use Rattle.row_output.specs.Rows.{IsRefusedAt, StopsAt}
use Rattle.row_output.specs.Sinks.{HasSinkRows, files_in, sink_text}
use Rattle.row_output.proofs.KeptCalls.{plain_left, plain_sink, nothing_stops, ordered_so}
use Rattle.row_output.proofs.SinkCalls.{refused_on}
use Rattle.row_output.proofs.row_output.pass.Goals as goal

pub returns-in_default-clause-stop : goal.returns-in_default-clause-stop
returns-in_default-clause-stop g c = λ order start rows has. nothing_stops (kind_of g.G.Stage.state g.G.Stage.ended) c.args.kept order c.args.sink.now start rows c.args.stage.now has

pub returns-in-All-clause-has : goal.returns-in-All-clause-has
returns-in-All-clause-has g c = λ order start rows has. plain_sink (kind_of g.G.Stage.state g.G.Stage.ended) c.args.kept c.in-All.is order c.args.sink.now c.args.stage.now c.args.stage.now start rows has

pub returns-in-All-clause-count : goal.returns-in-All-clause-count
returns-in-All-clause-count g c = λ order start rows has same.
    same ∙ ap length (sym (plain_left (kind_of g.G.Stage.state g.G.Stage.ended) c.args.kept c.in-All.is order c.args.sink.now c.args.stage.now c.args.stage.now start rows has))

pub returns-in_ok-put_all-in-Ordered-clause-has : goal.returns-in_ok-put_all-in-Ordered-clause-has
returns-in_ok-put_all-in-Ordered-clause-has g c = λ order start rows has.
    let kind = kind_of g.G.Stage.state g.G.Stage.ended in
    ordered_so kind c.args.kept c.in-Ordered.orderer c.in-Ordered.is order c.args.sink.now start rows c.args.stage.now c.in-Ok.rows
    (λ (l : List Row). HasSinkRows kind c.put_all.new.sink start l c.put_all.new.stage) c.in-Ok.ensures (c.in_ok-put_all-in-Ordered.ensures.has start) has

pub returns-in_ok-put_all-in-Ordered-clause-count : goal.returns-in_ok-put_all-in-Ordered-clause-count
returns-in_ok-put_all-in-Ordered-clause-count g c = λ order start rows has same.
    ordered_so (kind_of g.G.Stage.state g.G.Stage.ended) c.args.kept c.in-Ordered.orderer c.in-Ordered.is order c.args.sink.now start rows c.args.stage.now c.in-Ok.rows
    (λ (l : List Row). c.len-left.result ≡ length l) c.in-Ok.ensures (λ had. c.len-left.ensures) has

pub returns-in_err-put_all-in-Ordered-clause-stop : goal.returns-in_err-put_all-in-Ordered-clause-stop
returns-in_err-put_all-in-Ordered-clause-stop g c =
    let kind = kind_of g.G.Stage.state g.G.Stage.ended in
    on_err _ c.from_residual.result (λ order start rows has.
    ordered_so kind c.args.kept c.in-Ordered.orderer c.in-Ordered.is order c.args.sink.now start rows c.args.stage.now c.in-Ok.rows
    (λ (l : List Row). StopsAt (files_in c.args.sink.now) kind (sink_text c.args.sink.now) start l c.put_all.new.stage) c.in-Ok.ensures (c.in_err-put_all-in-Ordered.ensures.stop start) has)

pub returns-in_err-put_all-in-Ordered-clause-refused : goal.returns-in_err-put_all-in-Ordered-clause-refused
returns-in_err-put_all-in-Ordered-clause-refused g c =
    let kind = kind_of g.G.Stage.state g.G.Stage.ended in
    refused_on (λ (why : Refused). (start : _) → HasSinkRows kind c.args.sink.now start [] c.args.stage.now → IsRefusedAt (files_in c.args.sink.now) c.in-Ok.rows why)
    (λ (why : Refused). (order : Finish) (start : _) (rows : List Row) → HasKept kind c.args.kept order c.args.sink.now start rows c.args.stage.now → IsRefusedAt (files_in c.args.sink.now) (finished order rows) why)
    c.from_residual.result _ c.from_residual.ensures.1
    (λ why so order start rows has.
    ordered_so kind c.args.kept c.in-Ordered.orderer c.in-Ordered.is order c.args.sink.now start rows c.args.stage.now c.in-Ok.rows
    (λ (l : List Row). IsRefusedAt (files_in c.args.sink.now) l why) c.in-Ok.ensures (so start) has)
    c.in_err-put_all-in-Ordered.ensures.refused
