use Rattle.std.proofs.Common.{refl, ◌∙◌, drop, ◌≡◌, ◌≤◌, ◌+◌, Option, subst, arith}
use Rattle.std.specs.Option.{IfSome}
use Rattle.ledger.specs.declared.walking.LastEntry.{LastEntry}
use Rattle.ledger.specs.Walking.{FindsPair}
use Rattle.ledger.proofs.Resting.{rests_none, rests_then, rests_holds}
use Rattle.ledger.proofs.Pairs.{pairs_none, pairs_more}
use Rattle.ledger.proofs.walking.walk_pairs.Goals as goal

pub pairs-init : goal.pairs-init
pairs-init g c = record {
  within = omega (arith, c.requires.some);
  few = omega arith;
  last = tt;
  rests = rests_none _;
  later = omega arith;
  same = refl;
  walked = λ file holds is marked. pairs_none file marked;
}

pub pairs-preserved : goal.pairs-preserved
pairs-preserved g c =
    let inv = c.pairs.invariant in
    let end = c.pairs.end in
    let low = subst (λ (o : Option LastEntry). IfSome o (λ last. (last.pair ≡ end.pair) × (last.payload ≡ end.pair + 10) × (end.pair + 12 + last.length ≤ c.args.size))) c.in-Some.is c.in_ok-found.ensures.low in
    record {
      within = omega (arith, low.1, low.2);
      few = omega (arith, inv.few, low.1);
      last = omega (arith, low.0, low.1);
      rests = rests_then _ _ _ inv.rests c.walk_pair.ensures.rests;
      later = omega (arith, inv.later, c.walk_pair.ensures.reason.later);
      same = c.in_ok-found.ensures.reason.same ∙ inv.same;
      walked = λ file holds is marked.
          let there = rests_holds _ _ c.args.ledger.now file inv.rests holds in
          pairs_more file end (inv.walked file holds is marked) c.in-Some.found (subst (λ (o : Option LastEntry). FindsPair (drop end.pair file) end.pair o) c.in-Some.is (c.in_ok-found.ensures.walks file there is));
    }
