use Rattle.std.proofs.lemmas.Result.{on_ok_weaker}
use Rattle.text_output.specs.Output.{kind_of}
use Rattle.row_output.proofs.Texts.{unasked, left_takes, takes_text, spares_text}
use Rattle.row_output.proofs.file_output.put_row.Goals as goal

pub returns-in-LeftAlone-clause-takes : goal.returns-in-LeftAlone-clause-takes
returns-in-LeftAlone-clause-takes g c = left_takes (kind_of g.G.Stage.state g.G.Stage.ended) c.args.row.now c.args.file.now c.args.stage.now c.in-LeftAlone.is

pub returns-in-LeftAlone-clause-spares : goal.returns-in-LeftAlone-clause-spares
returns-in-LeftAlone-clause-spares g c = unasked (kind_of g.G.Stage.state g.G.Stage.ended) c.args.file.now c.args.stage.now

pub returns-in-Text-clause-takes : goal.returns-in-Text-clause-takes
returns-in-Text-clause-takes g c =
    on_ok_weaker c.row.result
    (λ step. takes_text (kind_of g.G.Stage.state g.G.Stage.ended) c.args.row.now c.args.file.now c.in-Text.text c.row.new.self c.args.stage.now c.row.new.stage c.in-Text.is c.row.ensures.format c.row.ensures.output c.row.ensures.spares step)
    c.row.ensures.step

pub returns-in-Text-clause-spares : goal.returns-in-Text-clause-spares
returns-in-Text-clause-spares g c = spares_text (kind_of g.G.Stage.state g.G.Stage.ended) c.args.file.now c.in-Text.text c.args.stage.now c.row.new.stage c.in-Text.is c.row.ensures.spares
