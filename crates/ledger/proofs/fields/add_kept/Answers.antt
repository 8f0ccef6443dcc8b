use Rattle.std.proofs.Common.{ap, List, map}
use Rattle.ledger_model.specs.Grammar.{spans_layout, lists_layout}
use Rattle.ledger.specs.Written.{span_of, kept_of}
use Rattle.ledger.specs.declared.entry.EntrySpan.{EntrySpan}
use Rattle.lp_values.specs.declared.value.Value.{Value}
use Rattle.ledger.proofs.Spelled.{goes_then, spells_last, spells_as, on_ok}
use Rattle.ledger.proofs.fields.add_kept.Goals as goal

pub returns-clause-goes : goal.returns-clause-goes
returns-clause-goes g c = goes_then c.add_spans.ensures.goes c.add_lists.ensures.goes

pub returns-clause-spells : goal.returns-clause-spells
returns-clause-spells g c = spells_last c.add_lists.result _ _ _ (spells_as c.in_ok-add_spans.ensures.spells (ap (λ (t : List EntrySpan). spans_layout.spell (map span_of t)) c.as_slice.ensures)) (on_ok c.add_lists.result _ _ c.add_lists.ensures.spells (λ s. spells_as s (ap (λ (t : List (List Value)). lists_layout.spell (map (map kept_of) t)) c.as_slice-2.ensures)))
