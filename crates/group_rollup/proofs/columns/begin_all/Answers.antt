use Rattle.std.proofs.Common.{◌∙◌}
use Rattle.group_rollup.proofs.columns.begin_all.Goals as goal

pub returns-in-Err-clause-err : goal.returns-in-Err-clause-err
returns-in-Err-clause-err c = c.cut_all.ensures ∙ c.in-Err.ensures.err c.args.count c.requires
