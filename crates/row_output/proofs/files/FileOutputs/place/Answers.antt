use Rattle.std.proofs.Common.{slice_get, refl, ap, ◌∙◌, arith}
use Rattle.std.proofs.lemmas.Option.{slice_get_within}
use Rattle.multiplex.specs.Naming.{filled}
use Rattle.multiplex.specs.Placing.{Numbering}
use Rattle.text_output.specs.Output.{kind_of}
use Rattle.row_output.specs.declared.files.FileOutputs.{FileOutputs}
use Rattle.row_output.proofs.States.{place_has, place_stops, opening_stops}
use Rattle.row_output.proofs.files.FileOutputs.place.Goals as goal

pub returns-in-Err-clause-stop : goal.returns-in-Err-clause-stop
returns-in-Err-clause-stop g c = λ start rows has.
    let f = c.args.self.now in
    place_stops (kind_of g.G.Stage.state g.G.Stage.ended) f start rows c.args.stage.now (filled f.outputs.pattern c.args.values.now) has

pub returns-in-Ok-open_all-clause-there : goal.returns-in-Ok-open_all-clause-there
returns-in-Ok-open_all-clause-there g c =
    let f = c.args.self.now in
    let all = c.in-Ok-open_all.ensures.all in
    let named = ap (λ (o : Numbering). slice_get o.names c.in-Ok.index) c.in-Ok-open_all.ensures.same.0 ∙ c.in-Ok.ensures.named in
    let less = slice_get_within c.open_all.new.self.outputs.names c.in-Ok.index (filled f.outputs.pattern c.args.values.now) named in
    omega (arith, less, all)

pub returns-in-Ok-open_all-clause-has : goal.returns-in-Ok-open_all-clause-has
returns-in-Ok-open_all-clause-has g c = λ start rows has.
    let f = c.args.self.now in
    let opened = c.in-Ok-open_all.ensures in
    let placed : FileOutputs = record f { outputs = c.place_values.new.self; fits = c.self-1.given.0; few = c.self-1.given.1.0 } in
    place_has (kind_of g.G.Stage.state g.G.Stage.ended) f placed c.open_all.new.self start rows c.args.stage.now c.open_all.new.stage (filled f.outputs.pattern c.args.values.now)
    c.in-Ok.ensures.ok refl refl refl refl c.in-Ok.ensures.new opened.same.0 opened.same.1 opened.all (λ first. opened.has start rows first) has

pub returns-in-Err-open_all-clause-stop : goal.returns-in-Err-open_all-clause-stop
returns-in-Err-open_all-clause-stop g c = λ start rows has.
    let f = c.args.self.now in
    let placed : FileOutputs = record f { outputs = c.place_values.new.self; fits = c.self-1.given.0; few = c.self-1.given.1.0 } in
    opening_stops (kind_of g.G.Stage.state g.G.Stage.ended) f placed start rows c.args.stage.now c.open_all.new.stage (filled f.outputs.pattern c.args.values.now)
    c.in-Ok.ensures.ok refl refl refl c.in-Ok.ensures.new (λ first. c.in-Err-open_all.ensures.stop start rows first) has
