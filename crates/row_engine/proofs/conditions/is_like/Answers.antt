use Rattle.std.specs.Str.{chars}
use Rattle.row_engine.proofs.Likeness.{told}
use Rattle.row_engine.proofs.conditions.is_like.Goals as goal

pub returns : goal.returns
returns c = told (chars c.args.pattern.now) (chars c.args.text.now) c.like.result c.like.ensures
