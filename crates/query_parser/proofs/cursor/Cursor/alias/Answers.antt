use Rattle.std.proofs.Common.{refl}
use Rattle.std.proofs.lemmas.Result.{err_from_is_err_and}
use Rattle.grammar.proofs.Answering.{reads_map, reads_behind}
use Rattle.query_parser.proofs.Stopping.{stop_map, stop_first, stop_second, given_err, given_as}
use Rattle.query_parser.proofs.cursor.Cursor.alias.Goals as goal

pub returns-in_err-_as : goal.returns-in_err-_as
returns-in_err-_as c n =
    let p = err_from_is_err_and c.from_residual.result c.from_residual.ensures.1 in
    rw (p.1, p.2) (given_err (stop_map (stop_first refl refl (c.in_err-_as.ensures.exact n).is)))

pub returns-in_err-token : goal.returns-in_err-token
returns-in_err-token c n =
    let p = err_from_is_err_and c.from_residual-in_err-token.result c.from_residual-in_err-token.ensures.1 in
    rw (p.1, p.2) (given_err (stop_map (stop_second refl (c.in_ok-_as.ensures.exact n).is (stop_map (c.in_err-token.ensures.exact n).is))))

pub returns : goal.returns
returns c n =
    given_as c.in_ok-name.ensures (reads_behind refl (c.in_ok-_as.ensures.exact n).is (reads_map (c.in_ok-token.ensures.exact n).is))
