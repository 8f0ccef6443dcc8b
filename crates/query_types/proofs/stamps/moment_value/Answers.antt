use Rattle.std.proofs.Common.{◌∙◌, ap, sym, FitsSigned, w64}
use Rattle.std.proofs.lemmas.Bool.{false≢true}
use Rattle.std.proofs.lemmas.Int.{to_z-of_z}
use Rattle.lp_values.specs.declared.part.Part.TheVariants.{Both}
use Rattle.slot_reading.specs.Stamps.{stamp_value}
use Rattle.slot_reading.proofs.StampLemmas.{stamp_value-at}
use Rattle.query_types.proofs.Existing.{no_stamp}
use Rattle.query_types.proofs.stamps.moment_value.Goals as goal

pub returns-in-Some : goal.returns-in-Some
returns-in-Some c =
    let range : FitsSigned w64 c.args.moment = c.ranges.moment in
    stamp_value-at c.in-Some.stamp Both c.in-Some.ensures.value.1 ∙ ap (stamp_value Both) (simp to_z-of_z at c.in-Some.ensures.value.0)

pub returns-in-None : goal.returns-in-None
returns-in-None c =
    let range : FitsSigned w64 c.args.moment = c.ranges.moment in
    let told = simp to_z-of_z at c.in-None.ensures.some in
    sym (no_stamp Both c.args.moment (λ exists. false≢true (told.1 exists)))
