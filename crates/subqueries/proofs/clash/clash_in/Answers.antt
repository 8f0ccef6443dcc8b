use Rattle.std.proofs.Common.{◌≡◌, ◌∙◌, ℕ, List, map, Option, None, ap, sym, subst}
use Rattle.log_reading.specs.declared.span.Span.{Span}
use Rattle.subqueries.specs.Listing.{first_own}
use Rattle.subqueries.proofs.Clashing.{none_own, own_found}
use Rattle.subqueries.proofs.clash.clash_in.Goals as goal

pub returns-in-None : goal.returns-in-None
returns-in-None c =
    let names : List (List ℕ) = map (λ (span : Span). span.name) c.args.spans.now in
    subst (λ (o : Option (List ℕ)). None ≡ first_own o names) (sym c.in-None.is) (none_own names)

pub returns-in-Ok : goal.returns-in-Ok
returns-in-Ok c =
    let names : List (List ℕ) = map (λ (span : Span). span.name) c.args.spans.now in
    c.clash_with.ensures ∙ (own_found c.in-Some.ledger c.in-Ok.stage c.args.spans.now c.in-Ok.ensures.1 ∙ ap (λ (o : Option (List ℕ)). first_own o names) (sym c.in-Some.is))
