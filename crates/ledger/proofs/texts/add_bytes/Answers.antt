use Rattle.std.proofs.Common.{◌∙◌, ◌-◌, ℕ, subst, arith}
use Rattle.ledger.specs.Texts.{Added}
use Rattle.ledger.proofs.Resting.{rests_then}
use Rattle.ledger.proofs.Wholes.{added_then, added_short}
use Rattle.ledger.proofs.texts.add_bytes.Goals as goal

pub returns-in-Err-clause-adds : goal.returns-in-Err-clause-adds
returns-in-Err-clause-adds g c = λ file end can. ((c.add_some.ensures.adds file end (c.loop-rest.invariant.adds file end can).0).0, tt)

pub returns-then-count-eq0-clause-adds : goal.returns-then-count-eq0-clause-adds
returns-then-count-eq0-clause-adds g c = λ file end can.
    let past = c.loop-rest.invariant.adds file end can in
    let here = c.in-Ok.ensures.adds file end past.0 in
    let short = added_short file end c.args.reader.now.at c.loop-rest.reader.at _ _ (c.args.size - c.loop-rest.rest) c.loop-rest.rest past.1 (here.1.ends c.if-count-eq0.true) (omega (arith, c.loop-rest-test.true)) in
    (here.0, omega (arith, short, c.loop-rest.invariant.within))

pub loop-rest-preserved : goal.loop-rest-preserved
loop-rest-preserved g c =
    let inv = c.loop-rest.invariant in
    record {
      within = omega (arith, inv.within);
      rests = rests_then _ _ _ inv.rests c.add_some.ensures.rests;
      later = omega (arith, inv.later, c.add_some.ensures.reason.later);
      same = c.in-Ok.ensures.reason.same ∙ inv.same;
      adds = λ file end can.
          let past = inv.adds file end can in
          let here = c.in-Ok.ensures.adds file end past.0 in
          (here.0, subst (λ (n : ℕ). Added file end c.args.reader.now.at c.add_some.new.reader.at c.args.to.now c.add_some.new.to n) (omega (arith, inv.within, c.in-Ok.ensures.within)) (added_then file end _ _ _ _ _ _ _ _ past.1 here.1.added));
    }

pub returns-clause-adds : goal.returns-clause-adds
returns-clause-adds g c = λ file end can.
    let past = c.loop-rest.invariant.adds file end can in
    (past.0, subst (λ (n : ℕ). Added file end c.args.reader.now.at c.loop-rest.reader.at c.args.to.now c.loop-rest.to n) (omega (arith, c.loop-rest-test.false)) past.1)
