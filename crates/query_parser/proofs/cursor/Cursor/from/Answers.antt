use Rattle.std.proofs.Common.{refl}
use Rattle.std.proofs.lemmas.Result.{err_from_is_err_and}
use Rattle.grammar.proofs.Answering.{reads_behind}
use Rattle.query_parser.proofs.Stopping.{stop_map, stop_first, stop_second, given_ok, given_err}
use Rattle.query_parser.proofs.cursor.Cursor.from.Goals as goal

pub returns-in_err-_from : goal.returns-in_err-_from
returns-in_err-_from c n =
    let p = err_from_is_err_and c.from_residual.result c.from_residual.ensures.1 in
    rw (p.1, p.2) (given_err (stop_map (stop_first refl refl (c.in_err-_from.ensures.exact n).is)))

pub returns-in_err-names : goal.returns-in_err-names
returns-in_err-names c n =
    let p = err_from_is_err_and c.from_residual-in_err-names.result c.from_residual-in_err-names.ensures.1 in
    rw (p.1, p.2) (given_err (stop_map (stop_second refl (c.in_ok-_from.ensures.exact n).is (c.in_err-names.ensures n).is)))

pub returns : goal.returns
returns c n =
    given_ok (reads_behind refl (c.in_ok-_from.ensures.exact n).is (c.in_ok-names.ensures n).is)
