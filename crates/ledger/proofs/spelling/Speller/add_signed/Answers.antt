use Rattle.std.proofs.Common.{◌∙◌, ap, ℤ}
use Rattle.std.specs.Int.{to_le_bytes, cast_unsigned, w64}
use Rattle.std.proofs.lemmas.Int.{to_z-of_z}
use Rattle.ledger_model.specs.Numbers.{i64_bytes}
use Rattle.ledger.proofs.Spelled.{on_ok, spells_as}
use Rattle.ledger.proofs.spelling.Speller.add_signed.Goals as goal

pub returns-clause-spells : goal.returns-clause-spells
unfolding i64_bytes
returns-clause-spells g c = on_ok c.add.result _ _ c.add.ensures.spells (λ s. spells_as s (c.to_le_bytes.ensures ∙ ap (λ (z : ℤ). to_le_bytes w64 (cast_unsigned w64 z)) (to_z-of_z w64 c.args.number c.ranges.number)))
