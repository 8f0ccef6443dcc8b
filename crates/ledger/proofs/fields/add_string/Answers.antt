use Rattle.ledger.proofs.Spelled.{goes_then, spells_last}
use Rattle.ledger.proofs.fields.add_string.Goals as goal

pub returns-clause-goes : goal.returns-clause-goes
returns-clause-goes g c = goes_then c.add_byte.ensures.goes c.add_word.ensures.goes

pub returns-clause-spells : goal.returns-clause-spells
returns-clause-spells g c = spells_last c.add_word.result _ _ _ c.in_ok-add_byte.ensures.spells c.add_word.ensures.spells
