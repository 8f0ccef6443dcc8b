use Rattle.std.proofs.Common.{[], ◌∷◌, ◌++◌, sym, ◌∙◌, subst}
use Rattle.ledger_model.specs.Entries.{Span}
use Rattle.ledger_model.specs.Standings.{IsStanding}
use Rattle.ledger.specs.Written.{span_of}
use Rattle.positions.specs.Places.{Remembers}
use Rattle.positions.proofs.Lasts.{remembers_more}
use Rattle.positions.proofs.SpanFields.{span_standing}
use Rattle.positions.proofs.entries.take_place.Goals as goal

pub returns-in-Ok-clause-takes : goal.returns-in-Ok-clause-takes
returns-in-Ok-clause-takes g c = λ to before span more fits remembers stands.
    let t = c.in_ok-span.ensures.takes to span more fits stands in
    let standing = subst (λ (s : Span). IsStanding s.to s.standing) (sym t.0) (span_standing span fits) in
    let ends = c.in-Ok.ensures standing in
    (subst (λ (s : Span). Remembers (before ++ s ∷ []) c.put.new.places.entries) t.0 (remembers_more before (span_of c.in_ok-span.span) c.in-Ok.place c.args.places.now.entries c.put.new.places.entries remembers ends c.in_ok-put-in-Ok.ensures), t.1)

pub returns-in-Err-Malformed-clause-takes : goal.returns-in-Err-Malformed-clause-takes
returns-in-Err-Malformed-clause-takes g c = λ to before span more fits remembers stands.
    let t = c.in_ok-span.ensures.takes to span more fits stands in
    let standing = subst (λ (s : Span). IsStanding s.to s.standing) (sym t.0) (span_standing span fits) in
    let memory = sym c.in-Err-Malformed.field-0-is ∙ c.in-Err-Malformed.ensures standing in
    absurd (cc)
