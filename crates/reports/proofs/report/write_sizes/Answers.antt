use Rattle.std.proofs.Common.{◌++◌, codes, decimal}
use Rattle.lp_model.proofs.Results.{on_err}
use Rattle.reports.proofs.Reporting.{some_of_first, some_of_second, some_of_third, all_three}
use Rattle.reports.proofs.report.write_sizes.Goals as goal

pub returns-in_err-write_number-clause-err : goal.returns-in_err-write_number-clause-err
returns-in_err-write_number-clause-err g c = on_err _ c.from_residual.result
    (some_of_first _ _ (codes " is " ++ decimal c.args.found ++ codes " bytes, ") (decimal c.args.kept) (codes " were read") c.in_err-write_number.ensures.err)

pub returns-in_err-write_behind-clause-err : goal.returns-in_err-write_behind-clause-err
returns-in_err-write_behind-clause-err g c = on_err _ c.from_residual-in_err-write_behind.result
    (some_of_second _ _ _ (codes " is " ++ decimal c.args.found ++ codes " bytes, ") (decimal c.args.kept) (codes " were read") c.in_ok-write_number.ensures.ok c.in_err-write_behind.ensures.err)

pub returns-in_err-write_all-clause-err : goal.returns-in_err-write_all-clause-err
returns-in_err-write_all-clause-err g c = on_err _ c.from_residual-in_err-write_all.result
    (some_of_third _ _ _ _ (codes " is " ++ decimal c.args.found ++ codes " bytes, ") (decimal c.args.kept) (codes " were read") c.in_ok-write_number.ensures.ok c.in_ok-write_behind.ensures.ok c.in_err-write_all.ensures.err)

pub returns-clause-ok : goal.returns-clause-ok
returns-clause-ok g c =
    all_three _ _ _ _ (codes " is " ++ decimal c.args.found ++ codes " bytes, ") (decimal c.args.kept) (codes " were read") c.in_ok-write_number.ensures.ok c.in_ok-write_behind.ensures.ok c.in_ok-write_all.ensures.ok
