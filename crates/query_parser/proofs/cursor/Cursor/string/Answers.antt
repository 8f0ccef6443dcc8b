use Rattle.std.proofs.Common.{ℕ, List, ap}
use Rattle.std.proofs.lemmas.Result.{err_from_is_err_and}
use Rattle.grammar.proofs.Answering.{reads_map}
use Rattle.query_parser.proofs.Stopping.{stop_map, given_err, given_as}
use Rattle.query_parser.proofs.cursor.Cursor.string.Goals as goal

pub returns-in_err-token : goal.returns-in_err-token
returns-in_err-token c n =
    let p = err_from_is_err_and c.from_residual.result c.from_residual.ensures.1 in
    rw (p.1, p.2) (given_err (stop_map (c.in_err-token.ensures.exact n).is))

pub returns : goal.returns
returns c n =
    given_as (ap (λ (x : List ℕ). record { at = c.in_ok-token.token.now.at; text = x }) c.in_ok-text.ensures) (reads_map (c.in_ok-token.ensures.exact n).is)
