use Rattle.std.proofs.Common.{sym}
use Rattle.std.proofs.lemmas.List.{take-map}
use Rattle.sensing.specs.Sensing.{named_of}
use Rattle.group_planning.proofs.selecting.front.Goals as goal

pub returns : goal.returns
returns c = sym (take-map named_of c.args.before c.args.all.now)
