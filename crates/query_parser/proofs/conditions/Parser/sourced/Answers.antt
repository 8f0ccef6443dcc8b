use Rattle.std.proofs.Common.{refl}
use Rattle.std.proofs.lemmas.Result.{err_from_is_err_and}
use Rattle.grammar.proofs.Answering.{reads_seq}
use Rattle.query_parser.proofs.Stopping.{stop_first, stop_second}
use Rattle.query_parser.proofs.Conditioning.{asks_err, asks_ok}
use Rattle.query_parser.proofs.conditions.Parser.sourced.Goals as goal

pub returns-in_err-aliases : goal.returns-in_err-aliases
returns-in_err-aliases c =
    let p = err_from_is_err_and c.from_residual.result c.from_residual.ensures.1 in
    rw (p.1, p.2) (asks_err (stop_first refl refl c.in_err-aliases.ensures.is))

pub returns-in_err-into : goal.returns-in_err-into
returns-in_err-into c =
    let p = err_from_is_err_and c.from_residual-in_err-into.result c.from_residual-in_err-into.ensures.1 in
    rw (p.1, p.2) (asks_err (stop_second refl c.in_ok-aliases.ensures.is (stop_first refl refl (c.in_err-into.ensures c.args.left).is)))

pub returns-in_err-names : goal.returns-in_err-names
returns-in_err-names c =
    let p = err_from_is_err_and c.from_residual-in_err-names.result c.from_residual-in_err-names.ensures.1 in
    rw (p.1, p.2) (asks_err (stop_second refl c.in_ok-aliases.ensures.is (stop_second refl (c.in_ok-into.ensures c.args.left).is (stop_first refl refl (c.in_err-names.ensures c.args.left).is))))

pub returns-in_err-condition : goal.returns-in_err-condition
returns-in_err-condition c =
    let p = err_from_is_err_and c.from_residual-in_err-condition.result c.from_residual-in_err-condition.ensures.1 in
    rw (p.1, p.2) (asks_err (stop_second refl c.in_ok-aliases.ensures.is (stop_second refl (c.in_ok-into.ensures c.args.left).is (stop_second refl (c.in_ok-names.ensures c.args.left).is c.in_err-condition.ensures.is))))

pub returns : goal.returns
returns c =
    asks_ok (reads_seq refl c.in_ok-aliases.ensures.is (reads_seq refl (c.in_ok-into.ensures c.args.left).is (reads_seq refl (c.in_ok-names.ensures c.args.left).is c.in_ok-condition.ensures.is.0))) c.in_ok-condition.ensures.is.1
