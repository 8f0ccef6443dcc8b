use Rattle.std.proofs.Common.{arith, drop, take}
use Rattle.std.proofs.lemmas.Simd.{length-chunk}
use Rattle.byte_masks.proofs.Lanes.{pair_mask}
use Rattle.byte_masks.proofs.block.sixteen.Goals as goal

pub returns : goal.returns
returns c = pair_mask c.args.set.first c.args.set.second 16 (take 16 (drop c.args.at c.args.bytes.now)) (length-chunk c.args.at 16 c.args.bytes.now c.requires) (omega arith)
