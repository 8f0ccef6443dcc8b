use Rattle.std.proofs.Common.{◌∷◌, [], codes}
use Rattle.lp_model.proofs.Results.{on_err}
use Rattle.reports.specs.Messages.{reason}
use Rattle.reports.proofs.Reporting.{some_of_first, some_of_second, some_of_third, all_three}
use Rattle.reports.proofs.report.write_message.Goals as goal

pub returns-in_err-write_all-clause-err : goal.returns-in_err-write_all-clause-err
returns-in_err-write_all-clause-err g c = on_err _ c.from_residual.result
    (some_of_first _ _ (codes "logparser: ") (reason c.args.status.now) (10 ∷ []) c.in_err-write_all.ensures.err)

pub returns-in_err-write_called-clause-err : goal.returns-in_err-write_called-clause-err
returns-in_err-write_called-clause-err g c = on_err _ c.from_residual-in_err-write_called.result
    (some_of_second _ _ _ (codes "logparser: ") (reason c.args.status.now) (10 ∷ []) c.in_ok-write_all.ensures.ok c.in_err-write_called.ensures.err)

pub returns-in_err-write_all-2-clause-err : goal.returns-in_err-write_all-2-clause-err
returns-in_err-write_all-2-clause-err g c = on_err _ c.from_residual-in_err-write_all-2.result
    (some_of_third _ _ _ _ (codes "logparser: ") (reason c.args.status.now) (10 ∷ []) c.in_ok-write_all.ensures.ok c.in_ok-write_called.ensures.ok c.in_err-write_all-2.ensures.err)

pub returns-clause-ok : goal.returns-clause-ok
returns-clause-ok g c =
    all_three _ _ _ _ (codes "logparser: ") (reason c.args.status.now) (10 ∷ []) c.in_ok-write_all.ensures.ok c.in_ok-write_called.ensures.ok c.in_ok-write_all-2.ensures.ok
