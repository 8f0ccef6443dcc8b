use Rattle.std.proofs.Common.{rules}
use Rattle.query_tree.specs.declared.expression.Expr.{the_lemmas}
use Rattle.query_tree.proofs.Lists.{whens_list}
use Rattle.query_tree.proofs.expression.Expr.case.Goals as goal

pub returns-in-None : goal.returns-in-None
returns-in-None c = search (rules, the_lemmas, whens_list)

pub returns-in_ok-value-in-Some : goal.returns-in_ok-value-in-Some
returns-in_ok-value-in-Some c = search (rules, the_lemmas, whens_list)
