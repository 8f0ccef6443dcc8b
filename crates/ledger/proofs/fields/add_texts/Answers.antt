use Rattle.std.proofs.Common.{ap, List, ℕ}
use Rattle.ledger_model.specs.Grammar.{words_layout}
use Rattle.ledger.proofs.Spelled.{goes_then, spells_last, spells_as}
use Rattle.ledger.proofs.fields.add_texts.Goals as goal

pub returns-in_err-add_word-clause-goes : goal.returns-in_err-add_word-clause-goes
returns-in_err-add_word-clause-goes g c = goes_then c.add_words.ensures.goes c.add_word.ensures.goes

pub returns-clause-goes : goal.returns-clause-goes
returns-clause-goes g c = goes_then (goes_then c.add_words.ensures.goes c.add_word.ensures.goes) c.add_bytes.ensures.goes

pub returns-clause-spells : goal.returns-clause-spells
returns-clause-spells g c = spells_last c.add_bytes.result _ _ _ (spells_as c.in_ok-add_words.ensures.spells (ap (λ (t : List (List ℕ)). words_layout.spell t) c.as_slice.ensures)) (spells_last c.add_bytes.result _ _ _ c.in_ok-add_word.ensures.spells c.add_bytes.ensures.spells)
