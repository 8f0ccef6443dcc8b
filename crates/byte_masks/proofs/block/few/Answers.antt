use Rattle.std.proofs.Common.{drop, arith, refl}
use Rattle.std.proofs.lemmas.List.{length-drop}
use Rattle.byte_masks.specs.Places.{is_in}
use Rattle.byte_masks.proofs.Masks.{short_mask, mask_of-more}
use Rattle.byte_masks.proofs.block.few.Goals as goal

pub loop-at-preserved : goal.loop-at-preserved
loop-at-preserved c = record {
  within = omega (arith, c.loop-at.invariant.within);
  mask = mask_of-more (is_in c.args.set) c.args.bytes.now c.loop-at.at c.loop-at.mask c.with_bit-mask.result c.has.result _ c.loop-at-test.true c.loop-at.invariant.within c.loop-at.invariant.mask refl c.has.ensures c.with_bit-mask.ensures;
}

pub with_bit-mask-requires : goal.with_bit-mask-requires
with_bit-mask-requires c =
    let left = drop c.loop-at.at c.args.bytes.now in
    let below = short_mask (is_in c.args.set) left (omega (arith, length-drop c.loop-at.at c.args.bytes.now, c.requires)) in
    omega (arith, below, c.loop-at.invariant.mask)
