use Rattle.std.proofs.Common.{rules, ℕ, subst, arith}
use Rattle.std.proofs.lemmas.Result.{IfOk-from_err}
use Rattle.ledger.specs.Passing.{NoText, Passed}
use Rattle.ledger.proofs.Resting.{rests_then}
use Rattle.ledger.proofs.Fronts.{passed_then, passed_not}
use Rattle.ledger.proofs.passing.pass.Goals as goal

pub returns-in_err-count-clause-passes : goal.returns-in_err-count-clause-passes
returns-in_err-count-clause-passes g c = λ file to can. let past = c.loop-rest.invariant.passes file to can in ((c.pass_some.ensures.passes file to past.0).0, IfOk-from_err c.from_residual.result _ c.from_residual.ensures.0)

pub returns-then-count-eq0-clause-passes : goal.returns-then-count-eq0-clause-passes
returns-then-count-eq0-clause-passes g c = λ file to can.
    let past = c.loop-rest.invariant.passes file to can in
    let here = c.in_ok-count.ensures.passes file to past.0 in
    let none = passed_not c.args.kind file to _ _ _ _ past.1 (here.1.ends c.if-count-eq0.true) in
    (here.0, subst (λ (n : ℕ). NoText c.args.kind file to c.args.reader.now.at n) (omega (arith, c.loop-rest.invariant.within)) none)

pub loop-rest-preserved : goal.loop-rest-preserved
loop-rest-preserved g c =
    let inv = c.loop-rest.invariant in
    record {
      within = omega (arith, inv.within);
      rests = rests_then _ _ _ inv.rests c.pass_some.ensures.rests;
      later = omega (arith, inv.later, c.pass_some.ensures.cause.later);
      same = search rules;
      passes = λ file to can.
          let past = inv.passes file to can in
          let here = c.in_ok-count.ensures.passes file to past.0 in
          (here.0, subst (λ (n : ℕ). Passed c.args.kind file to c.args.reader.now.at c.pass_some.new.reader.at n) (omega (arith, inv.within, here.1.within)) (passed_then c.args.kind file to _ _ _ _ _ past.1 here.1.passed));
    }

pub returns-clause-passes : goal.returns-clause-passes
returns-clause-passes g c = λ file to can.
    let past = c.loop-rest.invariant.passes file to can in
    (past.0, subst (λ (n : ℕ). Passed c.args.kind file to c.args.reader.now.at c.loop-rest.reader.at n) (omega (arith, c.loop-rest-test.false)) past.1)
