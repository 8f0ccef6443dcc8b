use Rattle.std.proofs.Common.{Option, refl, sym, subst}
use Rattle.commit.specs.Known.{IsLastDone}
use Rattle.commit.proofs.phases.if_done.Goals as goal

pub returns-then-last : goal.returns-then-last
returns-then-last c = (refl, subst IsLastDone (sym c.in-Some.is) c.if-last.true)
