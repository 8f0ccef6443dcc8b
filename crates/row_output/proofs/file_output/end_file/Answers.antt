use Rattle.text_output.specs.Output.{kind_of}
use Rattle.row_output.proofs.Texts.{unasked, left_ends, ends_text, spares_text}
use Rattle.row_output.proofs.file_output.end_file.Goals as goal

pub returns-in-LeftAlone-clause-ends : goal.returns-in-LeftAlone-clause-ends
returns-in-LeftAlone-clause-ends g c = left_ends (kind_of g.G.Stage.state g.G.Stage.ended) c.args.file c.args.stage.now c.in-LeftAlone.is

pub returns-in-LeftAlone-clause-spares : goal.returns-in-LeftAlone-clause-spares
returns-in-LeftAlone-clause-spares g c = unasked (kind_of g.G.Stage.state g.G.Stage.ended) c.args.file c.args.stage.now

pub returns-in_ok-end-in-Text-clause-ends : goal.returns-in_ok-end-in-Text-clause-ends
returns-in_ok-end-in-Text-clause-ends g c =
    ends_text (kind_of g.G.Stage.state g.G.Stage.ended) c.args.file c.in-Text.text _ c.args.stage.now c.end.new.stage c.in-Text.is c.in_ok-end-in-Text.ensures.last c.in_ok-end-in-Text.ensures.ended c.in_ok-end-in-Text.ensures.output c.end.ensures.spares

pub returns-in_ok-end-in-Text-clause-spares : goal.returns-in_ok-end-in-Text-clause-spares
returns-in_ok-end-in-Text-clause-spares g c = spares_text (kind_of g.G.Stage.state g.G.Stage.ended) c.args.file c.in-Text.text c.args.stage.now c.end.new.stage c.in-Text.is c.end.ensures.spares

pub returns-in_err-end-in-Text-clause-spares : goal.returns-in_err-end-in-Text-clause-spares
returns-in_err-end-in-Text-clause-spares g c = spares_text (kind_of g.G.Stage.state g.G.Stage.ended) c.args.file c.in-Text.text c.args.stage.now c.end.new.stage c.in-Text.is c.end.ensures.spares
