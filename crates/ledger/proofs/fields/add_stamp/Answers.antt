use Rattle.std.proofs.Common.{◌≡◌, SFits, to_z, of_z, ap, ℤ, ℕ, [], ◌∷◌, ◌∙◌}
use Rattle.std.specs.Int.{w64}
use Rattle.std.proofs.lemmas.Int.{to_z-of_z}
use Rattle.ledger_model.specs.Numbers.{i64_bytes}
use Rattle.ledger.specs.Written.{part_code}
use Rattle.ledger.proofs.Spelled.{goes_then, spells_last, spells_as, on_ok}
use Rattle.ledger.proofs.fields.add_stamp.Goals as goal

pub returns-in_err-add_byte-2-clause-goes : goal.returns-in_err-add_byte-2-clause-goes
returns-in_err-add_byte-2-clause-goes g c = goes_then c.add_byte.ensures.goes c.add_byte-2.ensures.goes

pub returns-clause-goes : goal.returns-clause-goes
returns-clause-goes g c = goes_then (goes_then c.add_byte.ensures.goes c.add_byte-2.ensures.goes) c.add_signed.ensures.goes

pub returns-clause-spells : goal.returns-clause-spells
returns-clause-spells g c =
    let fits : SFits w64 c.seconds.result = record { sfits = c.seconds.type_inv } in
    let number : i64_bytes (to_z w64 (of_z w64 c.seconds.result)) ≡ i64_bytes c.args.stamp.now.seconds = ap (λ (z : ℤ). i64_bytes z) (to_z-of_z w64 c.seconds.result fits ∙ c.seconds.ensures) in
    let part : c.part_byte-part.result ∷ [] ≡ part_code c.args.stamp.now.part ∷ [] = ap (λ (n : ℕ). n ∷ []) (c.part_byte-part.ensures ∙ ap part_code c.part.ensures) in
    spells_last c.add_signed.result _ _ _ c.in_ok-add_byte.ensures.spells (spells_last c.add_signed.result _ _ _ (spells_as c.in_ok-add_byte-2.ensures.spells part) (on_ok c.add_signed.result _ _ c.add_signed.ensures.spells (λ s. spells_as s number)))
