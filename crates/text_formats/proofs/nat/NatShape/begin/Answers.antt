use Rattle.std.proofs.Common.{[], refl}
use Rattle.lp_model.proofs.Growing.{append-nil}
use Rattle.text_formats.proofs.Blocks.{nat_begun}
use Rattle.text_formats.proofs.nat.NatShape.begin.Goals as goal

pub returns-clause-ok : goal.returns-clause-ok
returns-clause-ok c = ([], append-nil c.args.to.now, nat_begun _ c.args.names.now c.in_ok-self-inside.ensures refl c.clear.ensures.items)
