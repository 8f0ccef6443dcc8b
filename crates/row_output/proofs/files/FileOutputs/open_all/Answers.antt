use Rattle.std.proofs.Common.{[], ◌∷◌, ◌++◌, refl, sym, ◌∙◌, arith}
use Rattle.std.proofs.lemmas.List.{append-nil}
use Rattle.lp_model.proofs.Results.{on_err}
use Rattle.text_output.specs.Output.{kind_of}
use Rattle.row_output.proofs.Little.{one_more}
use Rattle.row_output.proofs.States.{first_opens, first_stops_since}
use Rattle.row_output.proofs.files.FileOutputs.open_all.Goals as goal

pub loop-self-init : goal.loop-self-init
loop-self-init g c = record {
  outputs = refl;
  stars = refl;
  making = refl;
  front = ([], sym (append-nil c.args.self.now.files.items));
  first = λ start rows first. first;
  goes = g.met.G.Stage.goes_nowhere _;
  later = omega arith;
}

pub loop-self-preserved : goal.loop-self-preserved
loop-self-preserved g c =
    let so_far = c.loop-self.invariant in
    let here = c.in_ok-open_next.ensures in
    let later_before = so_far.later in
    let later_here = here.later in
    record {
      outputs = here.same.0 ∙ so_far.outputs;
      stars = here.same.1 ∙ so_far.stars;
      making = here.same.2 ∙ so_far.making;
      front = (
        so_far.front.0 ++ here.opened.1 ∷ [],
        one_more c.args.self.now.files.items so_far.front.0 c.loop-self.self.files.items c.open_next.new.self.files.items here.opened.1 so_far.front.1 here.opened.3,
      );
      first = λ start rows first.
          first_opens (kind_of g.G.Stage.state g.G.Stage.ended) c.loop-self.self c.open_next.new.self start rows c.loop-self.stage c.open_next.new.stage here.opened.0 here.opened.1
          here.same.0 here.same.2 here.opened.2 here.opened.3 here.opened.4 here.opened.5 here.kept (so_far.first start rows first);
      goes = g.met.G.Stage.goes_on _ _ _ so_far.goes here.goes;
      later = omega arith;
    }

pub returns-in_err-open_next-clause-stop : goal.returns-in_err-open_next-clause-stop
returns-in_err-open_next-clause-stop g c =
    let so_far = c.loop-self.invariant in
    let here = c.in_err-open_next.ensures in
    on_err _ c.from_residual.result (λ start rows has.
    first_stops_since (kind_of g.G.Stage.state g.G.Stage.ended) c.args.self.now c.loop-self.self start rows c.loop-self.stage c.open_next.new.stage so_far.outputs so_far.making here.kept (so_far.first start rows has))
