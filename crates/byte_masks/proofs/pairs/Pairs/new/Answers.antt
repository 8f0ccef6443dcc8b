use Rattle.std.proofs.Common.{arith}
use Rattle.byte_masks.specs.Places.{are_in, pairs_of}
use Rattle.byte_masks.proofs.PairMasks.{length-pairs_of}
use Rattle.byte_masks.proofs.Steps.{looks_new}
use Rattle.byte_masks.proofs.pairs.Pairs.new.Goals as goal

pub invariant_of-result : goal.invariant_of-result
invariant_of-result c = record {
  room = omega (arith, c.requires);
  looks = looks_new (are_in c.args.first c.args.second) (pairs_of c.args.apart c.args.bytes.now) c.args.at c.pair_block.result (omega (arith, c.requires, length-pairs_of c.args.apart c.args.bytes.now)) c.pair_block.ensures;
}
