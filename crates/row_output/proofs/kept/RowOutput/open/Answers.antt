use Rattle.std.proofs.Common.{refl, ap}
use Rattle.text_output.specs.Output.{kind_of}
use Rattle.row_output.specs.Sinks.{Purpose}
use Rattle.row_output.specs.declared.kept.RowOutput.{RowOutput}
use Rattle.row_output.proofs.KeptCalls.{asked_for, open_has, open_opened, open_stops, open_refuses}
use Rattle.row_output.proofs.Early.{open_early}
use Rattle.row_output.proofs.Unrefused.{open_named}
use Rattle.row_output.proofs.kept.RowOutput.open.Goals as goal

pub returns-clause-asked : goal.returns-clause-asked
returns-clause-asked g c = ap (λ (p : Purpose). asked_for p c.args.self.now.order) c.open.ensures.purpose

pub returns-clause-has : goal.returns-clause-has
returns-clause-has g c = open_has (kind_of g.G.Stage.state g.G.Stage.ended) c.args.self.now c.args.stage.now c.open.new.stage c.open.result _ refl refl refl c.open.ensures.has

pub returns-clause-opened : goal.returns-clause-opened
returns-clause-opened g c = open_opened (kind_of g.G.Stage.state g.G.Stage.ended) c.args.self.now c.args.stage.now c.open.new.stage c.open.result c.open.new.self c.open.ensures.opened

pub returns-clause-stop : goal.returns-clause-stop
returns-clause-stop g c = open_stops (kind_of g.G.Stage.state g.G.Stage.ended) c.args.self.now c.args.stage.now c.open.new.stage c.open.result c.open.ensures.stop

pub returns-clause-refused : goal.returns-clause-refused
returns-clause-refused g c = open_refuses (kind_of g.G.Stage.state g.G.Stage.ended) c.args.self.now c.args.stage.now c.open.new.stage c.open.result c.open.ensures.refused

pub returns-clause-named : goal.returns-clause-named
returns-clause-named g c =
    let kind = kind_of g.G.Stage.state g.G.Stage.ended in
    let o = c.args.self.now in
    let p : RowOutput = record o { sink = c.open.new.self } in
    open_named kind o p c.args.stage.now c.open.new.stage c.open.result (ap (λ (p : Purpose). asked_for p o.order) c.open.ensures.purpose) (open_has kind o c.args.stage.now c.open.new.stage c.open.result p refl refl refl c.open.ensures.has)
    (open_opened kind o c.args.stage.now c.open.new.stage c.open.result c.open.new.self c.open.ensures.opened)

pub returns-clause-early : goal.returns-clause-early
returns-clause-early g c = open_early (kind_of g.G.Stage.state g.G.Stage.ended) c.args.self.now c.args.stage.now c.open.result c.open.ensures.refused
