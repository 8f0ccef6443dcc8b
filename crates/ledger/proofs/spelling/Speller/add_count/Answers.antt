use Rattle.std.proofs.Common.{◌∙◌}
use Rattle.ledger_model.specs.Numbers.{u32_bytes}
use Rattle.ledger.proofs.Spelled.{on_ok, spells_as, low_word}
use Rattle.ledger.proofs.spelling.Speller.add_count.Goals as goal

pub returns-clause-spells : goal.returns-clause-spells
unfolding u32_bytes
returns-clause-spells g c = on_ok c.add.result _ _ c.add.ensures.spells (λ s. spells_as s (c.to_le_bytes.ensures ∙ low_word c.args.count))
