use Rattle.std.proofs.Common.{refl}
use Rattle.std.proofs.lemmas.Result.{err_from_is_err_and}
use Rattle.grammar.proofs.Answering.{reads_map, reads_seq, reads_behind}
use Rattle.query_parser.proofs.Stopping.{stop_map, stop_first, stop_second, given_ok, given_err}
use Rattle.query_parser.proofs.cursor.Cursor.between.Goals as goal

pub returns-in_err-_between-clause-exact : goal.returns-in_err-_between-clause-exact
returns-in_err-_between-clause-exact c =
    let p = err_from_is_err_and c.from_residual.result c.from_residual.ensures.1 in
    rw (p.1, p.2) (given_err (stop_map (stop_first refl refl (c.in_err-_between.ensures.exact c.args.left).is)))

pub returns-in_err-low-clause-exact : goal.returns-in_err-low-clause-exact
returns-in_err-low-clause-exact c =
    let p = err_from_is_err_and c.from_residual-in_err-low.result c.from_residual-in_err-low.ensures.1 in
    rw (p.1, p.2) (given_err (stop_map (stop_second refl (c.in_ok-_between.ensures.exact c.args.left).is (stop_map (stop_first refl refl c.in_err-low.ensures.is)))))

pub returns-in_err-_and-clause-exact : goal.returns-in_err-_and-clause-exact
returns-in_err-_and-clause-exact c =
    let p = err_from_is_err_and c.from_residual-in_err-_and.result c.from_residual-in_err-_and.ensures.1 in
    rw (p.1, p.2) (given_err (stop_map (stop_second refl (c.in_ok-_between.ensures.exact c.args.left).is (stop_map (stop_second refl c.in_ok-low.ensures.is (stop_map (stop_first refl refl (c.in_err-_and.ensures.exact c.args.left).is)))))))

pub returns-in_err-high-clause-exact : goal.returns-in_err-high-clause-exact
returns-in_err-high-clause-exact c =
    let p = err_from_is_err_and c.from_residual-in_err-high.result c.from_residual-in_err-high.ensures.1 in
    rw (p.1, p.2) (given_err (stop_map (stop_second refl (c.in_ok-_between.ensures.exact c.args.left).is (stop_map (stop_second refl c.in_ok-low.ensures.is (stop_map (stop_second refl (c.in_ok-_and.ensures.exact c.args.left).is c.in_err-high.ensures.is)))))))

pub returns-clause-exact : goal.returns-clause-exact
returns-clause-exact c =
    given_ok (reads_behind refl (c.in_ok-_between.ensures.exact c.args.left).is (reads_map (reads_seq refl c.in_ok-low.ensures.is (reads_behind refl (c.in_ok-_and.ensures.exact c.args.left).is c.in_ok-high.ensures.is))))
