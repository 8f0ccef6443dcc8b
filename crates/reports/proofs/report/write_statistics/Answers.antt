use Rattle.std.proofs.Common.{ℕ, List, codes}
use Rattle.lp_model.specs.Report.{counted_line, bad_report}
use Rattle.lp_model.proofs.Results.{on_err}
use Rattle.reports.proofs.Reporting.{some_of_first, some_of_second, some_of_third, all_three}
use Rattle.reports.proofs.report.write_statistics.Goals as goal

abbrev first : ℕ → List ℕ
first processed = counted_line (codes "Statistics:\n-----------\nElements processed: ") processed

abbrev second : ℕ → List ℕ
second output = counted_line (codes "Elements output:    ") output

pub returns-in_err-write_number-clause-err : goal.returns-in_err-write_number-clause-err
returns-in_err-write_number-clause-err g c = on_err _ c.from_residual.result
    (some_of_first _ _ (first c.args.processed) (second c.args.output) (bad_report c.args.bad) c.in_err-write_number.ensures.err)

pub returns-in_err-write_number-2-clause-err : goal.returns-in_err-write_number-2-clause-err
returns-in_err-write_number-2-clause-err g c = on_err _ c.from_residual-in_err-write_number-2.result
    (some_of_second _ _ _ (first c.args.processed) (second c.args.output) (bad_report c.args.bad) c.in_ok-write_number.ensures.ok c.in_err-write_number-2.ensures.err)

pub returns-in_err-write_bad-clause-err : goal.returns-in_err-write_bad-clause-err
returns-in_err-write_bad-clause-err g c = on_err _ c.from_residual-in_err-write_bad.result
    (some_of_third _ _ _ _ (first c.args.processed) (second c.args.output) (bad_report c.args.bad) c.in_ok-write_number.ensures.ok c.in_ok-write_number-2.ensures.ok c.in_err-write_bad.ensures.err)

pub returns-clause-ok : goal.returns-clause-ok
returns-clause-ok g c =
    all_three _ _ _ _ (first c.args.processed) (second c.args.output) (bad_report c.args.bad) c.in_ok-write_number.ensures.ok c.in_ok-write_number-2.ensures.ok c.in_ok-write_bad.ensures.ok
