use Rattle.std.proofs.Common.{ap, List, map}
use Rattle.ledger_model.specs.Grammar.{outputs_layout}
use Rattle.ledger.specs.Written.{output_of}
use Rattle.ledger.specs.declared.entry.Output.{Output}
use Rattle.ledger.proofs.Spelled.{goes_then, spells_last, spells_as}
use Rattle.ledger.proofs.fields.add_ending.Goals as goal

pub returns-in_err-add_outputs-clause-goes : goal.returns-in_err-add_outputs-clause-goes
returns-in_err-add_outputs-clause-goes g c = goes_then c.add_number.ensures.goes c.add_outputs.ensures.goes

pub returns-clause-goes : goal.returns-clause-goes
returns-clause-goes g c = goes_then (goes_then c.add_number.ensures.goes c.add_outputs.ensures.goes) c.add_counts.ensures.goes

pub returns-clause-spells : goal.returns-clause-spells
returns-clause-spells g c = spells_last c.add_counts.result _ _ _ c.in_ok-add_number.ensures.spells (spells_last c.add_counts.result _ _ _ (spells_as c.in_ok-add_outputs.ensures.spells (ap (λ (t : List Output). outputs_layout.spell (map output_of t)) c.as_slice.ensures)) c.add_counts.ensures.spells)
