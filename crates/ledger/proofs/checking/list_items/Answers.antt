use Rattle.std.proofs.Common.{◌∙◌, ℕ, subst, arith}
use Rattle.ledger.specs.Counted.{SomeItems}
use Rattle.ledger.proofs.Composing.{handed}
use Rattle.ledger.proofs.Counting.{items_more, items_refused, items_read}
use Rattle.ledger.proofs.Resting.{rests_then}
use Rattle.ledger_model.specs.Grammar.{list_layout}
use Rattle.ledger.proofs.checking.list_items.Goals as goal

pub loop-index-preserved : goal.loop-index-preserved
loop-index-preserved g c = let inv = c.loop-index.invariant in record {
  rests = rests_then _ _ _ inv.rests c.list.ensures.rests;
  later = omega (arith, inv.later, c.list.ensures.reason.later);
  same = c.in_ok-list.ensures.reason.same ∙ inv.same;
  reads = λ file to can.
      let past = inv.reads file to can in
      let here = c.in_ok-list.ensures.looks file to past.0 in
      (here.0, items_more (λ before. list_layout) file to _ _ _ _ past.1 here.1.value here.1.read);
}

pub returns-in_err-list-clause-looks : goal.returns-in_err-list-clause-looks
returns-in_err-list-clause-looks g c = λ file to can.
    let past = c.loop-index.invariant.reads file to can in
    let here = c.in_err-list.ensures.looks file to past.0 in
    (here.0, handed c.from_residual.result c.in_err-list.field-0.0 _ _ c.from_residual.ensures.1 (items_refused (λ before. list_layout) file to _ _ _ c.args.count past.1 (omega arith) _ here.1))

pub returns-clause-looks : goal.returns-clause-looks
returns-clause-looks g c = λ file to can.
    let past = c.loop-index.invariant.reads file to can in
    (past.0, items_read (λ before. list_layout) file to _ _ c.args.count (subst (λ (n : ℕ). SomeItems (λ before. list_layout) file to c.args.reader.now.at c.loop-index.reader.at n) (omega arith) past.1))
