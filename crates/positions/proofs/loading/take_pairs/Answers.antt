use Rattle.std.proofs.Common.{List, [], ◌∷◌, ◌++◌, refl, ◌∙◌, arith, subst, flat_map}
use Rattle.ledger_model.specs.Entries.{Entry}
use Rattle.ledger_model.specs.Ledgers.{spelled_pair}
use Rattle.ledger.proofs.Resting.{rests_then, rests_holds}
use Rattle.ledger.proofs.Composing.{handed}
use Rattle.positions.specs.Faults.{IsNoFault}
use Rattle.positions.specs.Places.{Keeps, kept_of}
use Rattle.positions.specs.Loads.{entries_of}
use Rattle.positions.proofs.Taking.{next_pair, entries_snoc, no_pair_left}
use Rattle.positions.proofs.loading.take_pairs.Goals as goal

pub loop-index-preserved : goal.loop-index-preserved
loop-index-preserved g c = let inv = c.loop-index.invariant in record {
  rests = rests_then _ _ _ inv.rests c.take_pair.ensures.rests;
  later = omega (arith, inv.later, c.take_pair.ensures.reason.later);
  same = c.in_ok-place.ensures.reason.same ∙ inv.same;
  left = λ file pairs holds first.
      let kept = kept_of c.loop-index.input c.loop-index.places.entries in
      let n = next_pair file c.args.to c.loop-index.place _ pairs kept (inv.left file pairs holds first) (omega arith) in
      let k = c.in_ok-place.ensures.takes file (entries_of n.past) n.pair (flat_map spelled_pair n.rest) (rests_holds _ _ c.args.ledger.now file inv.rests holds) n.is n.keeps n.left in
      record {
        past = n.past ++ n.pair ∷ [];
        next = n.rest;
        parts = n.parts;
        count_is = omega (arith, n.count_is);
        fit = n.others;
        left = k.0;
        keeps = subst (λ (es : List Entry). Keeps es (kept_of c.take_pair.new.input c.take_pair.new.places.entries)) (entries_snoc n.past n.pair) k.1;
      };
}

pub returns-in_err-place-clause-takes : goal.returns-in_err-place-clause-takes
returns-in_err-place-clause-takes g c = λ file pairs holds fit is keeps stands.
    let inv = c.loop-index.invariant in
    let kept = kept_of c.loop-index.input c.loop-index.places.entries in
    let n = next_pair file c.args.to c.loop-index.place _ pairs kept (inv.left file pairs holds (record { past = []; next = pairs; parts = refl; count_is = is; fit = fit; left = stands; keeps = keeps })) (omega arith) in
    handed c.from_residual.result c.in_err-place.field-0.0 _ IsNoFault c.from_residual.ensures.1 (c.in_err-place.ensures.takes file (entries_of n.past) n.pair (flat_map spelled_pair n.rest) (rests_holds _ _ c.args.ledger.now file inv.rests holds) n.is n.keeps n.left)

pub returns-clause-takes : goal.returns-clause-takes
returns-clause-takes g c = λ file pairs holds fit is keeps stands.
    no_pair_left file c.args.to c.loop-index.place _ pairs (kept_of c.loop-index.input c.loop-index.places.entries) (c.loop-index.invariant.left file pairs holds (record { past = []; next = pairs; parts = refl; count_is = is; fit = fit; left = stands; keeps = keeps })) (omega arith)
