use Rattle.std.proofs.Common.{sym, ◌∙◌, refl, subst, ◌++◌, ◌∷◌, []}
use Rattle.order_top.specs.Ordering.{Ordering, StandsFor}
use Rattle.order_top.proofs.Standing.{past_stands, plain_stands}
use Rattle.order_top.proofs.first_rows.FirstRows.add.Goals as goal

pub returns-then-is_past_row-clause-stands : goal.returns-then-is_past_row-clause-stands
returns-then-is_past_row-clause-stands c = λ rows stands. past_stands c.args.self.now _ (sym c.is_past_row.ensures ∙ c.if-is_past_row.true) c.args.row refl rows stands

pub returns-clause-stands : goal.returns-clause-stands
returns-clause-stands c = λ rows stands. subst (λ (s : Ordering). StandsFor s (rows ++ c.args.row ∷ [])) (sym c.in_ok-put.ensures.ok) (plain_stands _ _ _ _ _ c.args.self.now c.self.view_is rows c.args.row stands)
