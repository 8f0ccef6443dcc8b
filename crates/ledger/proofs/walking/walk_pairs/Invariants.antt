use Rattle.std.proofs.Common.{◌≡◌, ◌+◌, ◌-◌, ◌≤◌, ℕ, List, length, take}
use Rattle.std.specs.Option.{IfSome}
use Rattle.ledger_model.specs.Ledgers.{mark}
use Rattle.ledger.specs.Reader.{Holds, Rests}
use Rattle.ledger.specs.Walking.{SomePairs}
use Rattle.ledger.proofs.walking.walk_pairs.Given as goal

abbrev pub invariant-pairs : goal.invariant-pairs
invariant-pairs g l = record {
  within : l.end.pair + 2 ≤ l.size;
  few : l.end.entries ≤ l.end.pair;
  last : IfSome l.end.last (λ last. last.pair + 10 + last.length ≤ l.end.pair);
  rests : Rests (g.D.Disk.state l.fn.disk) (g.D.Disk.state l.disk);
  later : g.D.Disk.faults l.fn.disk ≤ g.D.Disk.faults l.disk;
  same : g.D.Disk.faults l.disk ≡ g.D.Disk.faults l.fn.disk;
  walked : (file : List ℕ) → Holds (g.D.Disk.state l.fn.disk) l.ledger file → l.size ≡ length file → take 16 file ≡ mark → SomePairs file l.end;
}

abbrev pub decreases-pairs : goal.decreases-pairs
decreases-pairs g l = l.size - l.end.pair
