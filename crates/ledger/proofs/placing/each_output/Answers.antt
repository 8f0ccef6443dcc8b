use Rattle.std.proofs.Common.{ℕ, refl, ◌∙◌, subst, arith}
use Rattle.std.proofs.lemmas.List.{length-set}
use Rattle.ledger.proofs.Comparing.{hashed_none, hashed_more}
use Rattle.ledger.specs.Counted.{SomeItems}
use Rattle.ledger.proofs.Composing.{handed}
use Rattle.ledger.proofs.Counting.{items_refused, items_read}
use Rattle.ledger.proofs.Resting.{rests_none, rests_then}
use Rattle.ledger_model.specs.Layouts.{listed}
use Rattle.ledger.specs.Reader.{RefusedAt}
use Rattle.ledger_model.specs.Grammar.{output_layout}
use Rattle.ledger.proofs.placing.each_output.Goals as goal

pub loop-index-init : goal.loop-index-init
loop-index-init g c = record {
  rests = rests_none _;
  later = omega arith;
  same = refl;
  reads = λ file to can. (can, hashed_none file to c.place-first.result c.args.reader.now.at c.place-first.ensures);
  room = refl;
}

pub loop-index-preserved : goal.loop-index-preserved
loop-index-preserved g c = let inv = c.loop-index.invariant in record {
  rests = rests_then _ _ _ inv.rests c.output.ensures.rests;
  later = omega (arith, inv.later, c.output.ensures.reason.later);
  same = c.in_ok-hash.ensures.reason.same ∙ inv.same;
  reads = λ file to can.
      let past = inv.reads file to can in
      let here = c.in_ok-hash.ensures.looks file to past.0 in
      let item = here.1 past.1.0 past.1.1 in
      (here.0, hashed_more file to _ _ _ c.loop-index.index c.in_ok-hash.hash c.loop-index.seen past.1 item.value item.read (omega (arith, inv.room, c.requires)) (c.in_ok-hash.ensures.hash file to past.0 past.1.0.items item.value item.read));
  room = length-set _ _ _ ∙ inv.room;
}

pub returns-in_err-hash-clause-looks : goal.returns-in_err-hash-clause-looks
returns-in_err-hash-clause-looks g c = λ file to can.
    let past = c.loop-index.invariant.reads file to can in
    let here = c.in_err-hash.ensures.looks file to past.0 in
    let some = past.1.0 in
    let item = here.1 some past.1.1 in
    (here.0, handed c.from_residual.result c.in_err-hash.field-0.0 _ _ c.from_residual.ensures.1 (subst (λ (n : ℕ). RefusedAt (listed output_layout c.args.count) file to n c.in_err-hash.field-0.0) c.place-first.ensures (items_refused output_layout file to _ _ _ c.args.count some (omega arith) _ item)))

pub returns-clause-looks : goal.returns-clause-looks
returns-clause-looks g c = λ file to can.
    let past = c.loop-index.invariant.reads file to can in
    let some = subst (λ (n : ℕ). SomeItems output_layout file to n c.loop-index.reader.at c.loop-index.index) c.place-first.ensures past.1.0 in
    (past.0, items_read output_layout file to _ _ c.args.count (subst (λ (n : ℕ). SomeItems output_layout file to c.args.reader.now.at c.loop-index.reader.at n) (omega arith) some))
