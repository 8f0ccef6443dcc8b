use Rattle.ledger.proofs.Spelled.{goes_then, spells_last}
use Rattle.ledger.proofs.fields.add_span.Goals as goal

pub returns-in_err-add_number-clause-goes : goal.returns-in_err-add_number-clause-goes
returns-in_err-add_number-clause-goes g c = goes_then c.add_name.ensures.goes c.add_number.ensures.goes

pub returns-in_err-add_number-2-clause-goes : goal.returns-in_err-add_number-2-clause-goes
returns-in_err-add_number-2-clause-goes g c = goes_then (goes_then c.add_name.ensures.goes c.add_number.ensures.goes) c.add_number-2.ensures.goes

pub returns-clause-goes : goal.returns-clause-goes
returns-clause-goes g c = goes_then (goes_then (goes_then c.add_name.ensures.goes c.add_number.ensures.goes) c.add_number-2.ensures.goes) c.add_bytes.ensures.goes

pub returns-clause-spells : goal.returns-clause-spells
returns-clause-spells g c = spells_last c.add_bytes.result _ _ _ c.in_ok-add_name.ensures.spells (spells_last c.add_bytes.result _ _ _ c.in_ok-add_number.ensures.spells (spells_last c.add_bytes.result _ _ _ c.in_ok-add_number-2.ensures.spells c.add_bytes.ensures.spells))
