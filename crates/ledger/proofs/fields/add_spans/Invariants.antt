use Rattle.std.proofs.Common.{◌≡◌, ◌≤◌, ◌++◌, length, take}
use Rattle.std.specs.List.{flat_map}
use Rattle.ledger.specs.Spelling.{Goes, Spells}
use Rattle.ledger_model.specs.Numbers.{u32_bytes}
use Rattle.ledger_model.specs.Grammar.{span_layout}
use Rattle.ledger.specs.Written.{span_of}
use Rattle.ledger.specs.declared.entry.EntrySpan.{EntrySpan}
use Rattle.ledger.proofs.fields.add_spans.Given as goal

abbrev pub invariant-loop-span : goal.invariant-loop-span
invariant-loop-span g l = record {
  goes : Goes (g.D.Disk.state l.fn.disk) (g.D.Disk.state l.disk) l.ledger l.fn.speller l.speller;
  later : g.D.Disk.faults l.fn.disk ≤ g.D.Disk.faults l.disk;
  same : g.D.Disk.faults l.disk ≡ g.D.Disk.faults l.fn.disk;
  spells : Spells (g.D.Disk.state l.fn.disk) (g.D.Disk.state l.disk) l.ledger l.fn.speller l.speller (u32_bytes (length l.spans) ++ flat_map (λ (span : EntrySpan). span_layout.spell (span_of span)) (take l.span-index l.spans));
}
