use Rattle.std.proofs.Common.{ap, ℤ}
use Rattle.std.specs.Int.{w64}
use Rattle.std.proofs.lemmas.Int.{to_z-of_z}
use Rattle.ledger_model.specs.Numbers.{i64_bytes}
use Rattle.ledger.proofs.Spelled.{goes_then, spells_last, spells_as, on_ok}
use Rattle.ledger.proofs.fields.add_tagged.Goals as goal

pub returns-clause-goes : goal.returns-clause-goes
returns-clause-goes g c = goes_then c.add_byte.ensures.goes c.add_signed.ensures.goes

pub returns-clause-spells : goal.returns-clause-spells
returns-clause-spells g c = spells_last c.add_signed.result _ _ _ c.in_ok-add_byte.ensures.spells (on_ok c.add_signed.result _ _ c.add_signed.ensures.spells (λ s. spells_as s (ap (λ (z : ℤ). i64_bytes z) (to_z-of_z w64 c.args.number c.ranges.number))))
