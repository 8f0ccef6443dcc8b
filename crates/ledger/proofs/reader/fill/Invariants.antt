use Rattle.std.proofs.Common.{◌-◌, ◌≡◌, ℕ, ◌≤◌, List, length, take, drop}
use Rattle.ledger.specs.Reader.{Holds, Rests}
use Rattle.ledger.proofs.reader.fill.Given as goal

abbrev pub invariant-loop-done : goal.invariant-loop-done
invariant-loop-done g l = record {
  within : l.done ≤ length l.room;
  rests : Rests (g.D.Disk.state l.fn.disk) (g.D.Disk.state l.disk);
  later : g.D.Disk.faults l.fn.disk ≤ g.D.Disk.faults l.disk;
  same : g.D.Disk.faults l.disk ≡ g.D.Disk.faults l.fn.disk;
  found : (file : List ℕ) → Holds (g.D.Disk.state l.fn.disk) l.name file → (take l.done l.room ≡ take l.done (drop l.at file)) × (l.done ≤ length (drop l.at file));
}

abbrev pub decreases-loop-done : goal.decreases-loop-done
decreases-loop-done g l = l.want - l.done
