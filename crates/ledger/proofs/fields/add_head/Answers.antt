use Rattle.std.proofs.Common.{◌≡◌, SFits, to_z, of_z, ap, ℤ, ◌∙◌}
use Rattle.std.specs.Int.{w64}
use Rattle.std.proofs.lemmas.Int.{to_z-of_z}
use Rattle.ledger_model.specs.Numbers.{i64_bytes}
use Rattle.ledger.proofs.Spelled.{goes_then, spells_last, spells_as}
use Rattle.ledger.proofs.fields.add_head.Goals as goal

pub returns-in_err-add_signed-clause-goes : goal.returns-in_err-add_signed-clause-goes
returns-in_err-add_signed-clause-goes g c = goes_then c.add_byte.ensures.goes c.add_signed.ensures.goes

pub returns-clause-goes : goal.returns-clause-goes
returns-clause-goes g c = goes_then (goes_then c.add_byte.ensures.goes c.add_signed.ensures.goes) c.add_input.ensures.goes

pub returns-clause-spells : goal.returns-clause-spells
returns-clause-spells g c =
    let moment = c.moment_of-moment.result in
    let fits : SFits w64 moment = record { sfits = c.moment_of-moment.type_inv } in
    let number : i64_bytes (to_z w64 (of_z w64 moment)) ≡ i64_bytes c.args.entry.now.moment = ap (λ (z : ℤ). i64_bytes z) (to_z-of_z w64 moment fits ∙ c.moment_of-moment.ensures) in
    spells_last c.add_input.result _ _ _ c.in_ok-add_byte.ensures.spells (spells_last c.add_input.result _ _ _ (spells_as c.in_ok-add_signed.ensures.spells number) c.add_input.ensures.spells)
