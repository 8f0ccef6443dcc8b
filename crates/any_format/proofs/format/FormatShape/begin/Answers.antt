use Rattle.any_format.specs.declared.format.Format.TheVariants.{Csv, Tsv, W3c, Nat, Tpl}
use Rattle.any_format.proofs.Dispatching.{begin_err, same_held}
use Rattle.any_format.proofs.format.FormatShape.begin.Goals as goal

pub returns-in-Csv-clause-err : goal.returns-in-Csv-clause-err
returns-in-Csv-clause-err c = begin_err c.begin.result (Csv c.in-Csv.shape) c.args.self.now c.args.fresh c.args.names.now c.args.to.now c.begin.new.to c.in-Csv.is c.begin.ensures.err

pub returns-in-Tsv-clause-err : goal.returns-in-Tsv-clause-err
returns-in-Tsv-clause-err c = begin_err c.begin-in-Tsv.result (Tsv c.in-Tsv.shape) c.args.self.now c.args.fresh c.args.names.now c.args.to.now c.begin-in-Tsv.new.to c.in-Tsv.is c.begin-in-Tsv.ensures.err

pub returns-in-W3c-clause-err : goal.returns-in-W3c-clause-err
returns-in-W3c-clause-err c = begin_err c.begin-in-W3c.result (W3c c.in-W3c.shape) c.args.self.now c.args.fresh c.args.names.now c.args.to.now c.begin-in-W3c.new.to c.in-W3c.is c.begin-in-W3c.ensures.err

pub returns-in-Nat-clause-err : goal.returns-in-Nat-clause-err
returns-in-Nat-clause-err c = begin_err c.begin-in-Nat.result (Nat c.in-Nat.shape) c.args.self.now c.args.fresh c.args.names.now c.args.to.now c.begin-in-Nat.new.to c.in-Nat.is c.begin-in-Nat.ensures.err

pub returns-in-Tpl-clause-err : goal.returns-in-Tpl-clause-err
returns-in-Tpl-clause-err c = begin_err c.begin-in-Tpl.result (Tpl c.in-Tpl.shape) c.args.self.now c.args.fresh c.args.names.now c.args.to.now c.begin-in-Tpl.new.to c.in-Tpl.is c.begin-in-Tpl.ensures.err

pub returns-in-Csv-clause-same : goal.returns-in-Csv-clause-same
returns-in-Csv-clause-same c = same_held c.begin.result Csv c.in-Csv.shape c.begin.new.self c.args.self.now c.in-Csv.is c.begin.ensures.same

pub returns-in-Tsv-clause-same : goal.returns-in-Tsv-clause-same
returns-in-Tsv-clause-same c = same_held c.begin-in-Tsv.result Tsv c.in-Tsv.shape c.begin-in-Tsv.new.self c.args.self.now c.in-Tsv.is c.begin-in-Tsv.ensures.same

pub returns-in-W3c-clause-same : goal.returns-in-W3c-clause-same
returns-in-W3c-clause-same c = same_held c.begin-in-W3c.result W3c c.in-W3c.shape c.begin-in-W3c.new.self c.args.self.now c.in-W3c.is c.begin-in-W3c.ensures.same

pub returns-in-Nat-clause-same : goal.returns-in-Nat-clause-same
returns-in-Nat-clause-same c = same_held c.begin-in-Nat.result Nat c.in-Nat.shape c.begin-in-Nat.new.self c.args.self.now c.in-Nat.is c.begin-in-Nat.ensures.same

pub returns-in-Tpl-clause-same : goal.returns-in-Tpl-clause-same
returns-in-Tpl-clause-same c = same_held c.begin-in-Tpl.result Tpl c.in-Tpl.shape c.begin-in-Tpl.new.self c.args.self.now c.in-Tpl.is c.begin-in-Tpl.ensures.same
