use Rattle.std.proofs.Common.{arith}
use Rattle.std.proofs.lemmas.Grind.{common_steps}
use Rattle.std.proofs.lemmas.Option.{unwrap_or-slice_get}
use Rattle.list_run.proofs.ending.kind_first.Goals as goal

pub returns : goal.returns
returns c = grind (arith, common_steps, unwrap_or-slice_get)
