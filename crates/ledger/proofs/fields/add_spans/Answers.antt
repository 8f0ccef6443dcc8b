use Rattle.std.proofs.Common.{rules, List, [], ◌++◌, length, refl, sym, arith}
use Rattle.std.proofs.lemmas.List.{length-map}
use Rattle.ledger_model.specs.Numbers.{u32_bytes}
use Rattle.ledger_model.specs.Entries.{Span}
use Rattle.ledger_model.specs.Grammar.{span_layout}
use Rattle.ledger.specs.Written.{span_of}
use Rattle.ledger.specs.declared.entry.EntrySpan.{EntrySpan}
use Rattle.ledger.proofs.Spelled.{goes_then, spells_none, spells_more, spells_all, joined_items}
use Rattle.ledger.proofs.fields.add_spans.Goals as goal

pub loop-span-init : goal.loop-span-init
loop-span-init g c = record {
  goes = c.add_count.ensures.goes;
  later = c.add_count.ensures.cause.later;
  same = search rules;
  spells = spells_none (λ (span : EntrySpan). span_layout.spell (span_of span)) c.args.spans.now c.in_ok-add_count.ensures.spells;
}

pub loop-span-preserved : goal.loop-span-preserved
loop-span-preserved g c =
    let inv = c.loop-span.invariant in
    record {
      goes = goes_then inv.goes c.add_span.ensures.goes;
      later = omega (arith, inv.later, c.add_span.ensures.cause.later);
      same = search rules;
      spells = spells_more (u32_bytes (length c.args.spans.now)) (λ (span : EntrySpan). span_layout.spell (span_of span)) c.args.spans.now c.loop-span.span-index c.span-item.result inv.spells c.in_ok-add_span.ensures.spells c.loop-span-test.true c.span-item.is;
    }

pub returns-in_err-add_span-clause-goes : goal.returns-in_err-add_span-clause-goes
returns-in_err-add_span-clause-goes g c = goes_then c.loop-span.invariant.goes c.add_span.ensures.goes

pub returns-clause-spells : goal.returns-clause-spells
returns-clause-spells g c = spells_all (u32_bytes (length c.args.spans.now)) (λ (span : EntrySpan). span_layout.spell (span_of span)) c.args.spans.now c.loop-span.span-index _ c.loop-span.invariant.spells (omega arith) (λ i. u32_bytes (sym (length-map c.args.spans.now span_of) i) ++ joined_items (λ (before : List Span). span_layout) span_of (λ (span : EntrySpan). span_layout.spell (span_of span)) (λ before span. refl) [] c.args.spans.now i)
