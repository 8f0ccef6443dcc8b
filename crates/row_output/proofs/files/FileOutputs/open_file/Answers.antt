use Rattle.std.proofs.Common.{◌∙◌, ℕ, ℤ, Option, ap, rules, subst, w64}
use Rattle.std.proofs.lemmas.Int.{to_z-of_z}
use Rattle.any_format.specs.Wanted.{wanted_text}
use Rattle.text_output.specs.Output.{kind_of}
use Rattle.row_output.specs.FileTexts.{IsFound}
use Rattle.row_output.specs.FileRows.{making_of}
use Rattle.row_output.proofs.Texts.{text_opens}
use Rattle.row_output.proofs.files.FileOutputs.open_file.Goals as goal

pub returns-in-Ok-clause-file : goal.returns-in-Ok-clause-file
returns-in-Ok-clause-file g c =
    let found = subst (λ (o : Option ℕ). IsFound (kind_of g.G.Stage.state g.G.Stage.ended) c.args.self.now.mode c.args.stage.now c.args.name.now o) c.in-Some.is c.in_ok-base.ensures.found in
    let format = c.in-Ok.ensures.format ∙ ap (λ (m : ℤ). (wanted_text c.args.self.now.wanted m).of) (to_z-of_z w64 c.args.self.now.moment (search rules)) in
    text_opens (kind_of g.G.Stage.state g.G.Stage.ended) (making_of c.args.self.now) c.args.stage.now c.find_base.new.stage c.args.self.now.texts c.args.name.now c.in-Some.base c.new-target.result c.in-Ok.text g.met.G.Stage.empty
    c.find_base.ensures.kept found c.new-target.ensures.output (c.new-target.ensures.name ∙ c.copy.ensures) c.new-target.ensures.base c.new-target.ensures.mark c.in-Ok.ensures.target format c.in-Ok.ensures.so_far
