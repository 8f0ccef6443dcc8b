use Rattle.std.proofs.Common.{sym, ◌∙◌}
use Rattle.lp_functions.proofs.FittingLemmas.{fits_all}
use Rattle.lp_functions.proofs.table.fits_all.Goals as goal

pub returns : goal.returns
returns c = c.takes_all.ensures ∙ sym (fits_all c.args.place c.args.kinds.now)
