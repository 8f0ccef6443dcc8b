use Rattle.std.proofs.Common.{◌≡◌, ◌≤◌, ◌++◌, length, take}
use Rattle.std.specs.List.{flat_map}
use Rattle.ledger.specs.Spelling.{Goes, Spells}
use Rattle.ledger_model.specs.Numbers.{u32_bytes, text_bytes}
use Rattle.ledger.proofs.fields.add_words.Given as goal

abbrev pub invariant-loop-word : goal.invariant-loop-word
invariant-loop-word g l = record {
  goes : Goes (g.D.Disk.state l.fn.disk) (g.D.Disk.state l.disk) l.ledger l.fn.speller l.speller;
  later : g.D.Disk.faults l.fn.disk ≤ g.D.Disk.faults l.disk;
  same : g.D.Disk.faults l.disk ≡ g.D.Disk.faults l.fn.disk;
  spells : Spells (g.D.Disk.state l.fn.disk) (g.D.Disk.state l.disk) l.ledger l.fn.speller l.speller (u32_bytes (length l.words) ++ flat_map text_bytes (take l.word-index l.words));
}
