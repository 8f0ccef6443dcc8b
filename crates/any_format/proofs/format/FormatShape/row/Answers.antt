use Rattle.any_format.specs.declared.format.Format.TheVariants.{Csv, Tsv, W3c, Nat, Tpl}
use Rattle.any_format.proofs.Dispatching.{row_ok, row_err, same_held}
use Rattle.any_format.proofs.format.FormatShape.row.Goals as goal

pub returns-in-Csv-clause-err : goal.returns-in-Csv-clause-err
returns-in-Csv-clause-err c = row_err c.row.result (Csv c.in-Csv.shape) c.args.self.now c.args.values.now c.args.to.now c.row.new.to c.in-Csv.is c.row.ensures.err

pub returns-in-Tsv-clause-err : goal.returns-in-Tsv-clause-err
returns-in-Tsv-clause-err c = row_err c.row-in-Tsv.result (Tsv c.in-Tsv.shape) c.args.self.now c.args.values.now c.args.to.now c.row-in-Tsv.new.to c.in-Tsv.is c.row-in-Tsv.ensures.err

pub returns-in-W3c-clause-ok : goal.returns-in-W3c-clause-ok
returns-in-W3c-clause-ok c = row_ok c.row-in-W3c.result (W3c c.in-W3c.shape) c.args.self.now (W3c c.row-in-W3c.new.self) c.args.values.now c.args.to.now c.row-in-W3c.new.to c.in-W3c.is c.row-in-W3c.ensures.ok

pub returns-in-W3c-clause-err : goal.returns-in-W3c-clause-err
returns-in-W3c-clause-err c = row_err c.row-in-W3c.result (W3c c.in-W3c.shape) c.args.self.now c.args.values.now c.args.to.now c.row-in-W3c.new.to c.in-W3c.is c.row-in-W3c.ensures.err

pub returns-in-Nat-clause-ok : goal.returns-in-Nat-clause-ok
returns-in-Nat-clause-ok c = row_ok c.row-in-Nat.result (Nat c.in-Nat.shape) c.args.self.now (Nat c.row-in-Nat.new.self) c.args.values.now c.args.to.now c.row-in-Nat.new.to c.in-Nat.is c.row-in-Nat.ensures.ok

pub returns-in-Nat-clause-err : goal.returns-in-Nat-clause-err
returns-in-Nat-clause-err c = row_err c.row-in-Nat.result (Nat c.in-Nat.shape) c.args.self.now c.args.values.now c.args.to.now c.row-in-Nat.new.to c.in-Nat.is c.row-in-Nat.ensures.err

pub returns-in-Tpl-clause-ok : goal.returns-in-Tpl-clause-ok
returns-in-Tpl-clause-ok c = row_ok c.row-in-Tpl.result (Tpl c.in-Tpl.shape) c.args.self.now (Tpl c.row-in-Tpl.new.self) c.args.values.now c.args.to.now c.row-in-Tpl.new.to c.in-Tpl.is c.row-in-Tpl.ensures.ok

pub returns-in-Tpl-clause-err : goal.returns-in-Tpl-clause-err
returns-in-Tpl-clause-err c = row_err c.row-in-Tpl.result (Tpl c.in-Tpl.shape) c.args.self.now c.args.values.now c.args.to.now c.row-in-Tpl.new.to c.in-Tpl.is c.row-in-Tpl.ensures.err

pub returns-in-Csv-clause-same : goal.returns-in-Csv-clause-same
returns-in-Csv-clause-same c = same_held c.row.result Csv c.in-Csv.shape c.row.new.self c.args.self.now c.in-Csv.is c.row.ensures.same

pub returns-in-Tsv-clause-same : goal.returns-in-Tsv-clause-same
returns-in-Tsv-clause-same c = same_held c.row-in-Tsv.result Tsv c.in-Tsv.shape c.row-in-Tsv.new.self c.args.self.now c.in-Tsv.is c.row-in-Tsv.ensures.same

pub returns-in-W3c-clause-same : goal.returns-in-W3c-clause-same
returns-in-W3c-clause-same c = same_held c.row-in-W3c.result W3c c.in-W3c.shape c.row-in-W3c.new.self c.args.self.now c.in-W3c.is c.row-in-W3c.ensures.same

pub returns-in-Nat-clause-same : goal.returns-in-Nat-clause-same
returns-in-Nat-clause-same c = same_held c.row-in-Nat.result Nat c.in-Nat.shape c.row-in-Nat.new.self c.args.self.now c.in-Nat.is c.row-in-Nat.ensures.same

pub returns-in-Tpl-clause-same : goal.returns-in-Tpl-clause-same
returns-in-Tpl-clause-same c = same_held c.row-in-Tpl.result Tpl c.in-Tpl.shape c.row-in-Tpl.new.self c.args.self.now c.in-Tpl.is c.row-in-Tpl.ensures.same
