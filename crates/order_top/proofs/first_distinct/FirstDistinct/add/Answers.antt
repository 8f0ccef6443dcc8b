use Rattle.std.proofs.Common.{◌∙◌, sym}
use Rattle.std.proofs.lemmas.Result.{on_ok_weaker}
use Rattle.order_top.proofs.Mirroring.{any_by}
use Rattle.order_top.proofs.Standing.{known_stands, new_stands, not_known, past_still_stands}
use Rattle.order_top.proofs.first_distinct.FirstDistinct.add.Goals as goal

pub returns-then-is_past_row-clause-stands : goal.returns-then-is_past_row-clause-stands
returns-then-is_past_row-clause-stands c = λ rows stands.
    past_still_stands c.self.inside.first c.self.invariant.1 c.args.self.now c.self.view_is c.args.row rows stands (sym c.is_past_row.ensures ∙ c.if-is_past_row.true)

pub returns-then-has_row-clause-stands : goal.returns-then-has_row-clause-stands
returns-then-has_row-clause-stands c = λ rows stands.
    known_stands c.self.inside.first c.self.invariant.1 c.args.self.now c.self.view_is c.args.row rows stands (any_by c.args.row c.self.inside.first.kept _ (c.self.invariant.0 c.args.row) ∙ (sym c.has_row.ensures ∙ c.if-has_row.true))

pub returns-clause-stands : goal.returns-clause-stands
returns-clause-stands c =
    on_ok_weaker c.put_new.result (λ put rows stands.
    new_stands c.self.inside.first c.self.invariant.1 c.args.self.now c.self.view_is c.args.row rows stands (any_by c.args.row c.self.inside.first.kept _ (c.self.invariant.0 c.args.row) ∙ (sym c.has_row.ensures ∙ c.if-has_row.false)) c.put_new.new.first put) c.put_new.ensures.ok

pub returns-in_err-keys-clause-known : goal.returns-in_err-keys-clause-known
returns-in_err-keys-clause-known c = λ known.
    absurd (not_known _ c.args.self.now c.self.view_is c.args.row (any_by c.args.row c.self.inside.first.kept _ (c.self.invariant.0 c.args.row) ∙ (sym c.has_row.ensures ∙ c.if-has_row.false)) known)

pub returns-in_err-copy-clause-known : goal.returns-in_err-copy-clause-known
returns-in_err-copy-clause-known c = λ known.
    absurd (not_known _ c.args.self.now c.self.view_is c.args.row (any_by c.args.row c.self.inside.first.kept _ (c.self.invariant.0 c.args.row) ∙ (sym c.has_row.ensures ∙ c.if-has_row.false)) known)

pub returns-clause-known : goal.returns-clause-known
returns-clause-known c = λ known.
    absurd (not_known _ c.args.self.now c.self.view_is c.args.row (any_by c.args.row c.self.inside.first.kept _ (c.self.invariant.0 c.args.row) ∙ (sym c.has_row.ensures ∙ c.if-has_row.false)) known)
