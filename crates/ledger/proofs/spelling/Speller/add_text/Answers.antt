use Rattle.ledger.proofs.Spelled.{goes_then, spells_last}
use Rattle.ledger.proofs.spelling.Speller.add_text.Goals as goal

pub returns-clause-goes : goal.returns-clause-goes
returns-clause-goes g c = goes_then c.add_count.ensures.goes c.add.ensures.goes

pub returns-clause-spells : goal.returns-clause-spells
returns-clause-spells g c = spells_last c.add.result _ _ _ c.in_ok-add_count.ensures.spells c.add.ensures.spells
