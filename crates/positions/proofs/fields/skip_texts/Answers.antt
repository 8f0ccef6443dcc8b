use Rattle.std.proofs.Common.{◌++◌, ◌∙◌, arith, flat_map}
use Rattle.ledger_model.specs.Numbers.{text_bytes}
use Rattle.ledger.specs.Placing.{IsOfDisk}
use Rattle.ledger.proofs.Resting.{rests_then}
use Rattle.ledger.proofs.Composing.{handed}
use Rattle.positions.proofs.Skips.{next_text, none_left}
use Rattle.positions.proofs.fields.skip_texts.Goals as goal

pub loop-index-preserved : goal.loop-index-preserved
loop-index-preserved g c = let inv = c.loop-index.invariant in record {
  rests = rests_then _ _ _ inv.rests c.skip_text.ensures.rests;
  later = omega (arith, inv.later, c.skip_text.ensures.reason.later);
  same = c.in_ok-skip_text.ensures.reason.same ∙ inv.same;
  left = λ more all.
      let next = next_text _ _ _ _ _ more (inv.left more all) (omega arith) in
      record {
        texts = next.rest;
        count_is = omega (arith, next.count_is);
        short = next.others;
        stands = c.in_ok-skip_text.ensures.passes next.text (flat_map text_bytes next.rest ++ more) next.short next.stands;
      };
}

pub returns-in_err-skip_text-clause-passes : goal.returns-in_err-skip_text-clause-passes
returns-in_err-skip_text-clause-passes g c = λ texts more is short stands.
    let next = next_text _ _ _ _ _ more (c.loop-index.invariant.left more (record { texts = texts; count_is = is; short = short; stands = stands })) (omega arith) in
    handed c.from_residual.result c.in_err-skip_text.field-0.0 _ IsOfDisk c.from_residual.ensures.1 (c.in_err-skip_text.ensures.passes next.text (flat_map text_bytes next.rest ++ more) next.short next.stands)

pub returns-clause-passes : goal.returns-clause-passes
returns-clause-passes g c = λ texts more is short stands.
    none_left _ _ _ _ _ more (c.loop-index.invariant.left more (record { texts = texts; count_is = is; short = short; stands = stands })) (omega arith)
