use Rattle.std.proofs.Common.{◌≤◌}
use Rattle.query_tree.proofs.condition.Cond.TheLaws.{the_size}
use Rattle.query_tree.proofs.condition.Cond.+drop.Given as goal

abbrev pub invariant-loop-self : goal.invariant-loop-self
invariant-loop-self l = the_size l.self ≤ the_size l.initial.self
