use Rattle.std.proofs.Common.{◌≡◌, ◌≤◌, ◌-◌, ℕ, List}
use Rattle.ledger_model.specs.Ledgers.{Pair}
use Rattle.ledger.specs.Reader.{Rests, Holds}
use Rattle.positions.specs.Places.{kept_of}
use Rattle.positions.proofs.Taking.{PairsLeft}
use Rattle.positions.proofs.loading.take_pairs.Given as goal

abbrev pub invariant-loop-index : goal.invariant-loop-index
invariant-loop-index g l = record {
  rests : Rests (g.D.Disk.state l.fn.disk) (g.D.Disk.state l.disk);
  later : g.D.Disk.faults l.fn.disk ≤ g.D.Disk.faults l.disk;
  same : g.D.Disk.faults l.disk ≡ g.D.Disk.faults l.fn.disk;
  left : (file : List ℕ) (pairs : List Pair) → Holds (g.D.Disk.state l.fn.disk) l.ledger file → PairsLeft file l.to 16 l.count pairs (kept_of l.fn.input l.fn.places.entries) → PairsLeft file l.to l.place (l.count - l._index) pairs (kept_of l.input l.places.entries);
}
