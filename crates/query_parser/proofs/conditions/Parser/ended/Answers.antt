use Rattle.std.proofs.Common.{refl}
use Rattle.std.proofs.lemmas.Result.{err_from_is_err_and}
use Rattle.grammar.proofs.Answering.{reads_seq, reads_before}
use Rattle.query_parser.proofs.Stopping.{stop_map, stop_first, stop_second}
use Rattle.query_parser.proofs.Conditioning.{asks_err, asks_ok}
use Rattle.query_parser.proofs.conditions.Parser.ended.Goals as goal

pub returns-in_err-keys : goal.returns-in_err-keys
returns-in_err-keys c =
    let p = err_from_is_err_and c.from_residual.result c.from_residual.ensures.1 in
    rw (p.1, p.2) (asks_err (stop_first refl refl c.in_err-keys.ensures.is))

pub returns-in_err-having : goal.returns-in_err-having
returns-in_err-having c =
    let p = err_from_is_err_and c.from_residual-in_err-having.result c.from_residual-in_err-having.ensures.1 in
    rw (p.1, p.2) (asks_err (stop_second refl c.in_ok-keys.ensures.is (stop_first refl refl c.in_err-having.ensures.is)))

pub returns-in-Err : goal.returns-in-Err
returns-in-Err c =
    asks_err (stop_second refl c.in_ok-keys.ensures.is (stop_second refl c.in_ok-having.ensures.is.0 (stop_map (stop_first refl refl c.in-Err.ensures.is))))

pub returns-in-Ok : goal.returns-in-Ok
returns-in-Ok c =
    asks_ok (reads_seq refl c.in_ok-keys.ensures.is (reads_seq refl c.in_ok-having.ensures.is.0 (reads_before refl c.in-Ok.ensures.is (c.skip-semicolon.ensures c.args.left)))) c.in_ok-having.ensures.is.1
