use Rattle.std.proofs.Common.{refl, ◌∙◌, List, subst, map, arith}
use Rattle.std.proofs.lemmas.List.{take_all}
use Rattle.ledger.specs.declared.entry.EntrySpan.{EntrySpan}
use Rattle.ledger.specs.Written.{span_of}
use Rattle.positions.specs.Advances.{HaveRoom}
use Rattle.positions.proofs.Leaving.{rooms_more}
use Rattle.positions.proofs.advancing.set_all_aside.Goals as goal

pub loop-span-init : goal.loop-span-init
loop-span-init c = record { same = λ identity. refl; room = tt }

pub loop-span-preserved : goal.loop-span-preserved
loop-span-preserved c = let inv = c.loop-span.invariant in record {
  same = λ identity. c.set_aside.ensures.same identity ∙ inv.same identity;
  room = rooms_more c.args.spans.now c.loop-span.span-index c.span-item.result c.loop-span.places.entries c.set_aside.new.places.entries c.loop-span-test.true c.span-item.is c.set_aside.ensures.keeps c.in_ok-set_aside.ensures.room inv.room;
}

pub returns-in_err-set_aside-clause-same : goal.returns-in_err-set_aside-clause-same
returns-in_err-set_aside-clause-same c = λ identity. c.set_aside.ensures.same identity ∙ c.loop-span.invariant.same identity

pub returns-clause-room : goal.returns-clause-room
returns-clause-room c = subst (λ (l : List EntrySpan). HaveRoom c.loop-span.places.entries (map span_of l)) (take_all c.loop-span.span-index c.args.spans.now (omega (arith, c.loop-span-test.false))) c.loop-span.invariant.room
