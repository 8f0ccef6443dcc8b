use Rattle.ledger_model.specs.Numbers.{u64_bytes}
use Rattle.ledger.proofs.Spelled.{on_ok, spells_as}
use Rattle.ledger.proofs.spelling.Speller.add_number.Goals as goal

pub returns-clause-spells : goal.returns-clause-spells
unfolding u64_bytes
returns-clause-spells g c = on_ok c.add.result _ _ c.add.ensures.spells (λ s. spells_as s (c.to_le_bytes.ensures))
