use Rattle.std.proofs.Common.{refl}
use Rattle.text_formats.proofs.Stopping.{w3c_done}
use Rattle.text_formats.proofs.w3c.W3cOutShape.end.Goals as goal

pub returns-clause-ok : goal.returns-clause-ok
returns-clause-ok c = w3c_done c.args.self.now c.args.to.now c.args.to.now refl
