use Rattle.lp_model.proofs.Results.{on_err}
use Rattle.reports.proofs.Reporting.{some_of_first, some_of_second, some_of_third}
use Rattle.reports.proofs.report.write_three.Goals as goal

pub returns-in_err-write_all-clause-err : goal.returns-in_err-write_all-clause-err
returns-in_err-write_all-clause-err g c = on_err _ c.from_residual.result
    (some_of_first _ _ c.args.first.now c.args.second.now c.args.third.now c.in_err-write_all.ensures.err)

pub returns-in_err-write_all-2-clause-err : goal.returns-in_err-write_all-2-clause-err
returns-in_err-write_all-2-clause-err g c = on_err _ c.from_residual-in_err-write_all-2.result
    (some_of_second _ _ _ c.args.first.now c.args.second.now c.args.third.now c.in_ok-write_all.ensures.ok c.in_err-write_all-2.ensures.err)

pub returns-in_err-write_all-3-clause-err : goal.returns-in_err-write_all-3-clause-err
returns-in_err-write_all-3-clause-err g c = on_err _ c.from_residual-in_err-write_all-3.result
    (some_of_third _ _ _ _ c.args.first.now c.args.second.now c.args.third.now c.in_ok-write_all.ensures.ok c.in_ok-write_all-2.ensures.ok c.in_err-write_all-3.ensures.err)
