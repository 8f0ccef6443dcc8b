use Rattle.std.proofs.Common.{[], sym, subst, List, map, take, ◌+◌, arith}
use Rattle.std.specs.List.{AllZip}
use Rattle.std.proofs.lemmas.List.{take_all}
use Rattle.ledger.specs.declared.entry.EntrySpan.{EntrySpan}
use Rattle.ledger.specs.Written.{span_of}
use Rattle.positions.specs.declared.place.Left.{Left}
use Rattle.positions.specs.Advances.{IsLeftBy}
use Rattle.positions.proofs.SpanFields.{span_standing}
use Rattle.positions.proofs.Leaving.{lefts_more}
use Rattle.positions.proofs.advancing.lefts_of.Goals as goal

pub loop-span-init : goal.loop-span-init
loop-span-init c = subst (λ (l : List Left). AllZip IsLeftBy [] l) (sym c.in_ok-lefts.ensures.items) tt

pub loop-span-preserved : goal.loop-span-preserved
loop-span-preserved c =
    let items = c.args.spans.now in
    let x = c.span-item.result in
    let left : Left = record { identity = c.copy.result; place = c.in-Ok.place } in
    subst (λ (l : List Left). AllZip IsLeftBy (map span_of (take (c.loop-span.span-index + 1) items)) l) (sym c.in_ok-push-in-Ok.ensures.items)
    (lefts_more items c.loop-span.span-index x c.loop-span.lefts.items left c.loop-span-test.true c.span-item.is c.loop-span.invariant (record { identity_is = c.copy.ensures; ends = λ fits. c.in-Ok.ensures (span_standing (span_of x) fits) }))

pub returns : goal.returns
returns c = subst (λ (l : List EntrySpan). AllZip IsLeftBy (map span_of l) c.loop-span.lefts.items) (take_all c.loop-span.span-index c.args.spans.now (omega (arith, c.loop-span-test.false))) c.loop-span.invariant
