use Rattle.query_tree.proofs.Lists.{call_tree}
use Rattle.query_tree.proofs.expression.Expr.call.Goals as goal

pub returns : goal.returns
returns c = call_tree c.args.at c.args.name c.args.arguments
