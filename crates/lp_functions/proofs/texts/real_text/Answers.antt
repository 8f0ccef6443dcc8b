use Rattle.std.proofs.Common.{FitsSigned, w64}
use Rattle.std.proofs.lemmas.Int.{to_z-of_z}
use Rattle.lp_functions.proofs.PrintedLemmas.{real_whole}
use Rattle.lp_functions.proofs.texts.real_text.Goals as goal

pub returns : goal.returns
returns c =
    let range : FitsSigned w64 c.args.millionths = c.ranges.millionths in
    let text = simp to_z-of_z at c.printed_text.ensures in
    rw (← real_whole c.args.millionths range) text
