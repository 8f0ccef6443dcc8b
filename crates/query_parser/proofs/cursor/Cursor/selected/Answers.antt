use Rattle.std.proofs.Common.{refl}
use Rattle.std.proofs.lemmas.Result.{err_from_is_err_and}
use Rattle.grammar.proofs.Answering.{reads_seq, reads_behind}
use Rattle.query_parser.proofs.Stopping.{stop_map, stop_first, stop_second, given_ok, given_err}
use Rattle.query_parser.proofs.cursor.Cursor.selected.Goals as goal

pub returns-in_err-_select : goal.returns-in_err-_select
returns-in_err-_select c =
    let p = err_from_is_err_and c.from_residual.result c.from_residual.ensures.1 in
    rw (p.1, p.2) (given_err (stop_map (stop_first refl refl (c.in_err-_select.ensures.exact c.args.left).is)))

pub returns-in_err-top : goal.returns-in_err-top
returns-in_err-top c =
    let p = err_from_is_err_and c.from_residual-in_err-top.result c.from_residual-in_err-top.ensures.1 in
    rw (p.1, p.2) (given_err (stop_map (stop_second refl (c.in_ok-_select.ensures.exact c.args.left).is (stop_first refl refl (c.in_err-top.ensures c.args.left).is))))

pub returns-in_err-distinct : goal.returns-in_err-distinct
returns-in_err-distinct c =
    let p = err_from_is_err_and c.from_residual-in_err-distinct.result c.from_residual-in_err-distinct.ensures.1 in
    rw (p.1, p.2) (given_err (stop_map (stop_second refl (c.in_ok-_select.ensures.exact c.args.left).is (stop_second refl (c.in_ok-top.ensures c.args.left).is (stop_first refl refl (c.in_err-distinct.ensures c.args.left).is)))))

pub returns-in_err-columns : goal.returns-in_err-columns
returns-in_err-columns c =
    let p = err_from_is_err_and c.from_residual-in_err-columns.result c.from_residual-in_err-columns.ensures.1 in
    rw (p.1, p.2) (given_err (stop_map (stop_second refl (c.in_ok-_select.ensures.exact c.args.left).is (stop_second refl (c.in_ok-top.ensures c.args.left).is (stop_second refl (c.in_ok-distinct.ensures c.args.left).is c.in_err-columns.ensures.is)))))

pub returns : goal.returns
returns c =
    given_ok (reads_behind refl (c.in_ok-_select.ensures.exact c.args.left).is (reads_seq refl (c.in_ok-top.ensures c.args.left).is (reads_seq refl (c.in_ok-distinct.ensures c.args.left).is c.in_ok-columns.ensures.is)))
