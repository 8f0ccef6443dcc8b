use Rattle.std.proofs.Common.{refl, ap}
use Rattle.std.proofs.lemmas.Result.{err_from_is_err_and}
use Rattle.grammar.specs.Trees.{Tree as tree}
use Rattle.grammar.specs.Trees as model
use Rattle.grammar.proofs.Answering.{reads_map, reads_seq}
use Rattle.query_tree.specs.Views.{tree_of}
use Rattle.query_parser.proofs.Stopping.{stop_map, stop_first, stop_second, given_err, given_as}
use Rattle.query_parser.proofs.cursor.Cursor.comparison.Goals as goal

pub returns-in_err-sign-clause-exact : goal.returns-in_err-sign-clause-exact
returns-in_err-sign-clause-exact c =
    let p = err_from_is_err_and c.from_residual.result c.from_residual.ensures.1 in
    rw (p.1, p.2) (given_err (stop_map (stop_first refl refl (c.in_err-sign.ensures.exact c.args.left).is)))

pub returns-in_err-right-clause-exact : goal.returns-in_err-right-clause-exact
returns-in_err-right-clause-exact c =
    let p = err_from_is_err_and c.from_residual-in_err-right.result c.from_residual-in_err-right.ensures.1 in
    rw (p.1, p.2) (given_err (stop_map (stop_second refl (c.in_ok-sign.ensures.exact c.args.left).is c.in_err-right.ensures.is)))

pub returns-clause-exact : goal.returns-clause-exact
returns-clause-exact c =
    given_as (ap (λ k. model.compared k (tree_of c.in_ok-right.right)) c.comparison_of-how.ensures) (reads_map (reads_seq refl (c.in_ok-sign.ensures.exact c.args.left).is c.in_ok-right.ensures.is))
