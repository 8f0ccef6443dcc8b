use Rattle.ledger_model.specs.Grammar.{payload_of}
use Rattle.ledger.proofs.Spelled.{goes_then, spells_last}
use Rattle.ledger.proofs.fields.add_entry.Goals as goal

pub returns-in_err-add_texts-clause-goes : goal.returns-in_err-add_texts-clause-goes
returns-in_err-add_texts-clause-goes g c = goes_then c.add_head.ensures.goes c.add_texts.ensures.goes

pub returns-in_err-add_kept-clause-goes : goal.returns-in_err-add_kept-clause-goes
returns-in_err-add_kept-clause-goes g c = goes_then (goes_then c.add_head.ensures.goes c.add_texts.ensures.goes) c.add_kept.ensures.goes

pub returns-clause-goes : goal.returns-clause-goes
returns-clause-goes g c = goes_then (goes_then (goes_then c.add_head.ensures.goes c.add_texts.ensures.goes) c.add_kept.ensures.goes) c.add_ending.ensures.goes

pub returns-clause-spells : goal.returns-clause-spells
unfolding payload_of
returns-clause-spells g c = spells_last c.add_ending.result _ _ _ c.in_ok-add_head.ensures.spells (spells_last c.add_ending.result _ _ _ c.in_ok-add_texts.ensures.spells (spells_last c.add_ending.result _ _ _ c.in_ok-add_kept.ensures.spells c.add_ending.ensures.spells))
