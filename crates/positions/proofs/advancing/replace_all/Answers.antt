use Rattle.std.proofs.Common.{List, refl, sym, ap, subst, length, arith}
use Rattle.std.specs.List.{AllZip}
use Rattle.std.proofs.lemmas.List.{nil_from_length}
use Rattle.std.specs.Vec.Iter.{into_iter_items}
use Rattle.positions.specs.declared.place.Left.{Left}
use Rattle.positions.specs.Advances.{LeftsHaveRoom, IsLeftBy}
use Rattle.positions.proofs.Leaving.{ahead_more, none_ahead, first_room, lefts_keep}
use Rattle.positions.proofs.advancing.replace_all.Goals as goal

pub replace-requires : goal.replace-requires
replace-requires c = (first_room (into_iter_items c.loop-left.left-iterator) c.in-Some.left (into_iter_items c.next.new.self) c.loop-left.places.entries c.in-Some.ensures.steps.0 c.loop-left.invariant.room).0

pub loop-left-init : goal.loop-left-init
loop-left-init c = let gives = c.into_iter-left-iterator.ensures.into_iter_gives in record {
  next = tt;
  finite = tt;
  count = omega (arith, gives.1, c.args.lefts.ok, ap length gives.0);
  room = subst (λ (l : List Left). LeftsHaveRoom c.args.places.now.entries l) (sym gives.0) c.requires;
  ahead = λ before spans zip fit remembers. record { past = before; next = spans; parts = refl; zip = subst (λ (l : List Left). AllZip IsLeftBy spans l) (sym gives.0) zip; fit = fit; remembers = remembers };
}

pub loop-left-preserved : goal.loop-left-preserved
loop-left-preserved c =
    let inv = c.loop-left.invariant in
    let items = into_iter_items c.loop-left.left-iterator in
    let rest = into_iter_items c.next.new.self in
    let steps = c.in-Some.ensures.steps in
    let room = first_room items c.in-Some.left rest c.loop-left.places.entries steps.0 inv.room in
    record {
      next = tt;
      finite = tt;
      count = omega (arith, inv.count, steps.1, ap length steps.0);
      room = lefts_keep rest c.loop-left.places.entries c.replace.new.places.entries c.replace.ensures.keeps room.1;
      ahead = λ before spans zip fit remembers. ahead_more items c.in-Some.left rest _ c.loop-left.places.entries c.replace.new.places.entries steps.0 (inv.ahead before spans zip fit remembers) c.replace.ensures.puts;
    }

pub returns : goal.returns
returns c = λ before spans zip fit remembers.
    let inv = c.loop-left.invariant in
    let items = into_iter_items c.loop-left.left-iterator in
    none_ahead items _ c.loop-left.places.entries (nil_from_length items (omega (arith, inv.count, c.in-None.ensures.steps.0))) (inv.ahead before spans zip fit remembers)
