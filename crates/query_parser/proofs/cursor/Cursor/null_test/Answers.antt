use Rattle.std.proofs.Common.{refl}
use Rattle.std.proofs.lemmas.Result.{err_from_is_err_and}
use Rattle.grammar.proofs.Answering.{reads_map, reads_behind, reads_before}
use Rattle.query_parser.proofs.Stopping.{stop_map, stop_first, stop_second, given_ok, given_err}
use Rattle.query_parser.proofs.cursor.Cursor.null_test.Goals as goal

pub returns-in_err-_is-clause-exact : goal.returns-in_err-_is-clause-exact
returns-in_err-_is-clause-exact c n =
    let p = err_from_is_err_and c.from_residual.result c.from_residual.ensures.1 in
    rw (p.1, p.2) (given_err (stop_map (stop_first refl refl (c.in_err-_is.ensures.exact n).is)))

pub returns-in_err-_null-clause-exact : goal.returns-in_err-_null-clause-exact
returns-in_err-_null-clause-exact c n =
    let p = err_from_is_err_and c.from_residual-in_err-_null.result c.from_residual-in_err-_null.ensures.1 in
    rw (p.1, p.2) (given_err (stop_map (stop_second refl (c.in_ok-_is.ensures.exact n).is (stop_map (stop_map (stop_second refl (c.skip-negated.ensures n) (c.in_err-_null.ensures.exact n).is))))))

pub returns-clause-exact : goal.returns-clause-exact
returns-clause-exact c n =
    given_ok (reads_behind refl (c.in_ok-_is.ensures.exact n).is (reads_map (reads_before refl (c.skip-negated.ensures n) (c.in_ok-_null.ensures.exact n).is)))
