use Rattle.std.proofs.Common.{[]}
use Rattle.std.proofs.lemmas.Result.{on_ok_weaker, on_err_weaker}
use Rattle.text_output.specs.Output.{kind_of}
use Rattle.query_run.specs.Writing.{puts_on, stops_behind}
use Rattle.query_run.proofs.writer.Writer.begin.Goals as goal

pub returns-clause-takes : goal.returns-clause-takes
returns-clause-takes g c =
    let kind = kind_of g.G.Stage.state g.G.Stage.ended in
    on_ok_weaker c.pass_on.result (λ handed. puts_on kind [] [] c.args.self.now c.open.new.self c.pass_on.new.self c.args.stage.now c.open.new.stage c.pass_on.new.stage c.in_ok-open.ensures.takes handed) c.pass_on.ensures.takes

pub returns-clause-stops : goal.returns-clause-stops
returns-clause-stops g c =
    let kind = kind_of g.G.Stage.state g.G.Stage.ended in
    on_err_weaker c.pass_on.result (λ stopped. stops_behind kind [] [] c.args.self.now c.open.new.self c.pass_on.new.self c.args.stage.now c.open.new.stage c.pass_on.new.stage c.in_ok-open.ensures.takes stopped) c.pass_on.ensures.stops

pub returns-clause-named : goal.returns-clause-named
returns-clause-named g c = on_ok_weaker c.pass_on.result (λ taken. c.in_ok-open.ensures.named) c.pass_on.ensures.takes

pub returns-clause-opened : goal.returns-clause-opened
returns-clause-opened g c = on_ok_weaker c.pass_on.result (λ handed. handed.opened c.in_ok-open.ensures.opened) c.pass_on.ensures.takes
