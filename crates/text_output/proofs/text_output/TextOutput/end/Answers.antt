use Rattle.std.proofs.Common.{[], ap, List, ℕ, sym, subst}
use Rattle.std.proofs.lemmas.List.{append-nil}
use Rattle.text_output.specs.Output.{kind_of, output_at, reached, GainsText, GainsFront}
use Rattle.text_output.specs.Fronts.{front_of}
use Rattle.text_output.proofs.Moving.{UnderWay_end, UnderWay_stop}
use Rattle.text_output.proofs.text_output.TextOutput.end.Goals as goal

pub returns-in_default-clause-front : goal.returns-in_default-clause-front
returns-in_default-clause-front g c = λ fresh names rows start under_way.
    let shape = c.args.self.now.shape in
    let Of : List ℕ → Type 0 = λ t. GainsFront start c.args.stage.now t in
    subst Of (ap (g.F.Shape.text shape fresh names) (append-nil rows))
    (front_of g.F.Shape.text g.F.Shape.has_text g.met.F.Shape.begins shape fresh names rows [] start (reached (kind_of g.G.Stage.state g.G.Stage.ended) c.args.self.now.target c.args.stage.now) c.args.self.now.held under_way)

pub returns-in-Ok-end-clause-text : goal.returns-in-Ok-end-clause-text
returns-in-Ok-end-clause-text g c = λ fresh names rows start under_way.
    let shape = c.args.self.now.shape in
    let target = c.args.self.now.target in
    let kind = kind_of g.G.Stage.state g.G.Stage.ended in
    let last = output_at kind target c.in-Ok-end.mark c.end-2.new.stage in
    let Of : List ℕ → Type 0 = λ t. GainsText (reached kind target c.args.stage.now) last t in
    let whole = UnderWay_end (g.F.Shape.has_text shape fresh names rows) start (reached kind target c.args.stage.now) last c.args.self.now.held c.end.new.to c.in-Ok.ensures.ok.0 _ c.in-Ok.ensures.ok.1
    (λ so_far text. c.in-Ok.ensures.ok.2 fresh names rows so_far text) (subst Of c.as_slice.ensures c.in-Ok-end.ensures.gained) under_way in
    subst (λ (name : List ℕ). GainsText start (record { output = target.output; name = name; base = target.base; mark = c.in-Ok-end.mark; stage = c.end-2.new.stage }) (g.F.Shape.text shape fresh names rows)) (sym c.copy.ensures) whole

pub returns-in-Err-clause-front : goal.returns-in-Err-clause-front
returns-in-Err-clause-front g c = λ fresh names rows start under_way.
    let shape = c.args.self.now.shape in
    let kind = kind_of g.G.Stage.state g.G.Stage.ended in
    let Of : List ℕ → Type 0 = λ t. GainsFront (reached kind c.args.self.now.target c.args.stage.now) c.end-2.new.stage t in
    UnderWay_stop (g.F.Shape.has_text shape fresh names rows) start (reached kind c.args.self.now.target c.args.stage.now) c.end-2.new.stage c.args.self.now.held c.end.new.to c.in-Ok.ensures.ok.0 _ c.in-Ok.ensures.ok.1
    (λ so_far text. c.in-Ok.ensures.ok.2 fresh names rows so_far text) (subst Of c.as_slice.ensures c.in-Err.ensures.front) under_way
