use Rattle.std.proofs.Common.{◌≡◌, ◌++◌, ap, ◌∙◌, subst}
use Rattle.std.specs.Prelude.{OnOk, OnErr}
use Rattle.std.proofs.lemmas.Result.{on_ok_weaker, on_err_weaker}
use Rattle.lp_model.specs.Outside.{GrowsIn}
use Rattle.lp_model.specs.Reading.{Standing}
use Rattle.lp_model.proofs.Buffers.{grows_later}
use Rattle.ledger_model.specs.Numbers.{u64_bytes}
use Rattle.ledger_model.specs.Standings.{columns_bytes}
use Rattle.line_input.proofs.Added.{both_added}
use Rattle.line_input.proofs.standing.Standing.to_bytes.Goals as goal

pub returns-clause-ok : goal.returns-clause-ok
unfolding u64_bytes
returns-clause-ok c =
    let lines = c.in_ok-add.ensures.ok ∙ ap (λ t. c.args.to.now ++ t) c.to_le_bytes.ensures in
    subst (λ (s : Standing). OnOk c.add_in_force.result (c.add_in_force.new.to ≡ c.args.to.now ++ (u64_bytes s.lines ++ columns_bytes s.columns))) c.self.view_is
    (on_ok_weaker c.add_in_force.result (λ e. both_added c.args.to.now c.add.new.self c.add_in_force.new.to (u64_bytes c.self.inside.lines) (columns_bytes c.self.inside.columns) lines e) c.add_in_force.ensures.ok)

pub returns-clause-err : goal.returns-clause-err
unfolding u64_bytes
returns-clause-err c =
    let lines = c.in_ok-add.ensures.ok ∙ ap (λ t. c.args.to.now ++ t) c.to_le_bytes.ensures in
    subst (λ (s : Standing). OnErr c.add_in_force.result (GrowsIn c.args.to.now c.add_in_force.new.to (u64_bytes s.lines ++ columns_bytes s.columns))) c.self.view_is
    (on_err_weaker c.add_in_force.result (λ e. grows_later c.args.to.now c.add.new.self c.add_in_force.new.to (u64_bytes c.self.inside.lines) (columns_bytes c.self.inside.columns) lines e) c.add_in_force.ensures.err)
