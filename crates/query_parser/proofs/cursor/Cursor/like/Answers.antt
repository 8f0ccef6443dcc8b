use Rattle.std.proofs.Common.{refl}
use Rattle.std.proofs.lemmas.Result.{err_from_is_err_and}
use Rattle.grammar.proofs.Answering.{reads_map, reads_behind}
use Rattle.query_parser.proofs.Stopping.{stop_map, stop_first, stop_second, given_ok, given_err}
use Rattle.query_parser.proofs.cursor.Cursor.like.Goals as goal

pub returns-in_err-_like-clause-exact : goal.returns-in_err-_like-clause-exact
returns-in_err-_like-clause-exact c n =
    let p = err_from_is_err_and c.from_residual.result c.from_residual.ensures.1 in
    rw (p.1, p.2) (given_err (stop_map (stop_map (stop_first refl refl (c.in_err-_like.ensures.exact n).is))))

pub returns-in_err-pattern-clause-exact : goal.returns-in_err-pattern-clause-exact
returns-in_err-pattern-clause-exact c n =
    let p = err_from_is_err_and c.from_residual-in_err-pattern.result c.from_residual-in_err-pattern.ensures.1 in
    rw (p.1, p.2) (given_err (stop_map (stop_map (stop_second refl (c.in_ok-_like.ensures.exact n).is (c.in_err-pattern.ensures n).is))))

pub returns-clause-exact : goal.returns-clause-exact
returns-clause-exact c n =
    given_ok (reads_map (reads_behind refl (c.in_ok-_like.ensures.exact n).is (c.in_ok-pattern.ensures n).is))
