use Rattle.std.proofs.Common.{ap₂, ◌∙◌}
use lib.Bits.{bit_and}
use Rattle.byte_masks.proofs.PairMasks.{pairs_mask}
use Rattle.byte_masks.proofs.pairs.pair_block.Goals as goal

pub returns : goal.returns
returns c = ap₂ bit_and c.block.ensures c.block-2.ensures ∙ pairs_mask c.args.first c.args.second c.args.apart c.args.at c.args.bytes.now
