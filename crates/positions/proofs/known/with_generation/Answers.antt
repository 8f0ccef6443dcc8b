use Rattle.std.proofs.Common.{rules, subst, Option, ℕ}
use Rattle.positions.specs.SpanSteps.{IsKnownAmong}
use Rattle.positions.proofs.KnownMore.{no_place, no_number, first_number, more_number}
use Rattle.positions.proofs.known.with_generation.Goals as goal

pub returns-then-is_none : goal.returns-then-is_none
returns-then-is_none c = no_place c.args.front.now c.args.identity.now c.args.place.now c.args.known (search rules)

pub returns-in-Some-known : goal.returns-in-Some-known
returns-in-Some-known c = λ entries knows.
    more_number c.args.front.now c.args.identity.now c.args.place.now c.in-Some-known.other c.in-Some.number c.greater.result (search rules) c.in-Some.ensures c.greater.ensures.first c.greater.ensures.second c.greater.ensures.one entries (subst (λ (known : Option ℕ). IsKnownAmong c.args.front.now entries known) c.in-Some-known.is knows)

pub returns-in-None-known : goal.returns-in-None-known
returns-in-None-known c = λ entries knows.
    first_number c.args.front.now c.args.identity.now c.args.place.now c.in-Some.number (search rules) c.in-Some.ensures entries (subst (λ (known : Option ℕ). IsKnownAmong c.args.front.now entries known) c.in-None-known.is knows)

pub returns-in-None : goal.returns-in-None
returns-in-None c = no_number c.args.front.now c.args.identity.now c.args.place.now c.args.known c.in-None.ensures
