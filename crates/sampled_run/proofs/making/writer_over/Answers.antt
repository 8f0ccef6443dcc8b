use Rattle.std.proofs.Common.{ap, sym, ◌∙◌, subst}
use Rattle.row_output.specs.Kept.{IsNew, asked_of}
use Rattle.sampled_run.proofs.making.writer_over.Goals as goal

pub new-requires : goal.new-requires
new-requires c = c.in-Ok.ensures.new.none

pub returns-in-Ok-clause-asked : goal.returns-in-Ok-clause-asked
returns-in-Ok-clause-asked c = ap asked_of c.new.ensures.output ∙ c.in-Ok.ensures.asked

pub returns-in-Ok-clause-new : goal.returns-in-Ok-clause-new
returns-in-Ok-clause-new c = subst IsNew (sym c.new.ensures.output) c.in-Ok.ensures.new
