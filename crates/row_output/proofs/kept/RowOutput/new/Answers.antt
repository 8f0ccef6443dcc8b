use Rattle.std.proofs.Common.{refl, ap, FitsSigned, w64}
use Rattle.std.proofs.lemmas.Int.{to_z-of_z}
use Rattle.row_output.specs.Sinks.{Purpose}
use Rattle.row_output.proofs.KeptCalls.{asked_for}
use Rattle.row_output.proofs.kept.RowOutput.new.Goals as goal

pub returns-clause-asked : goal.returns-clause-asked
returns-clause-asked c =
    let range : FitsSigned w64 c.args.moment = c.ranges.moment in
    let purpose = simp to_z-of_z at c.in_ok-sink.ensures.purpose in
    ap (λ (p : Purpose). asked_for p c.args.order) purpose

pub returns-clause-new : goal.returns-clause-new
returns-clause-new c = record { kept = c.in_ok-kept.ensures.new; sink = c.in_ok-sink.ensures.new; none = refl }
