use Rattle.lp_values.specs.Civil.{civil_of}
use Rattle.lp_functions.proofs.PrintedLemmas.{stamp_whole}
use Rattle.lp_functions.proofs.texts.stamp_text.Goals as goal

pub returns : goal.returns
returns c = rw (← stamp_whole (civil_of c.args.stamp.seconds) c.args.stamp.part) c.printed_text.ensures
