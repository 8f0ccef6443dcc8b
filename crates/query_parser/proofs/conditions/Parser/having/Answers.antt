use Rattle.std.proofs.Common.{true, refl, sym}
use Rattle.std.proofs.lemmas.Result.{err_from_is_err_and}
use Rattle.grammar.specs.declared.Class.TheVariants as class
use Rattle.grammar.specs.Classes.{is_a}
use Rattle.grammar.proofs.Answering.{reads_behind, reads_absent, reads_present}
use Rattle.query_parser.proofs.Stopping.{stop_map, stop_first, stop_second, stop_present}
use Rattle.query_parser.proofs.Conditioning.{grown_none, asks_err, asks_ok}
use Rattle.query_parser.proofs.conditions.Parser.having.Goals as goal

pub returns-then-not-next_is : goal.returns-then-not-next_is
returns-then-not-next_is c =
    asks_ok (reads_absent (is_a class.Having) refl refl (sym c.if-not-next_is.ensures)) (grown_none true _)

pub returns-in_err-_having : goal.returns-in_err-_having
returns-in_err-_having c =
    let p = err_from_is_err_and c.from_residual.result c.from_residual.ensures.1 in
    rw (p.1, p.2) (asks_err (stop_present (is_a class.Having) refl (sym c.if-not-next_is.ensures) (stop_map (stop_first refl refl (c.in_err-_having.ensures.exact c.args.left).is))))

pub returns-in_err-test : goal.returns-in_err-test
returns-in_err-test c =
    let p = err_from_is_err_and c.from_residual-in_err-test.result c.from_residual-in_err-test.ensures.1 in
    rw (p.1, p.2) (asks_err (stop_present (is_a class.Having) refl (sym c.if-not-next_is.ensures) (stop_map (stop_second refl (c.in_ok-_having.ensures.exact c.args.left).is c.in_err-test.ensures.is))))

pub returns : goal.returns
returns c =
    asks_ok (reads_present (is_a class.Having) refl (sym c.if-not-next_is.ensures) (reads_behind refl (c.in_ok-_having.ensures.exact c.args.left).is c.in_ok-test.ensures.is.0)) c.in_ok-test.ensures.is.1
