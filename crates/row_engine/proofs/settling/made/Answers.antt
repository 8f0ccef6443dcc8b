use Rattle.query_types.proofs.Forms.{made_term}
use Rattle.row_engine.proofs.settling.made.Goals as goal

pub returns : goal.returns
returns c = made_term c.args.kind c.args.by c.args.of
