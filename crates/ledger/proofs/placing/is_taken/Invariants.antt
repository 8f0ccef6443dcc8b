use Rattle.std.proofs.Common.{◌≡◌, ◌≤◌, ℕ, List}
use Rattle.ledger.specs.Reader.{CanRead, Holds, Rests}
use Rattle.ledger.specs.Counted.{SomeItems}
use Rattle.ledger_model.specs.Grammar.{output_layout}
use Rattle.ledger.proofs.Comparing.{Past}
use Rattle.ledger.proofs.placing.is_taken.Given as goal

abbrev pub invariant-loop-index : goal.invariant-loop-index
invariant-loop-index g l = record {
  rests : Rests (g.D.Disk.state l.fn.disk) (g.D.Disk.state l.disk);
  later : g.D.Disk.faults l.fn.disk ≤ g.D.Disk.faults l.disk;
  same : g.D.Disk.faults l.disk ≡ g.D.Disk.faults l.fn.disk;
  reads : (file : List ℕ) → Holds (g.D.Disk.state l.fn.disk) l.ledger file → CanRead (g.D.Disk.state l.disk) l.ledger file l.to l.reader × ((at : ℕ) (some : SomeItems output_layout file l.to l.first at l.count) → Past file l.to at some.items l._index l.name l.reader.at);
}
