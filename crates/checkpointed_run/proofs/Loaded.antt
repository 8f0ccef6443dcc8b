-- What was loaded of a ledger is what the entries of any state keep that a read gives.
use Rattle.std.proofs.Common.{◌≡◌, ℕ, List, sym, ◌∙◌, ap, subst}
use Rattle.disk_model.specs.Disk.{DiskState, Files}
use Rattle.ledger_model.specs.Entries.{Entry}
use Rattle.ledger_model.proofs.Reading.{one_ledger}
use Rattle.recovery_model.specs.Recovered.{Recovers}
use Rattle.positions.specs.Loads.{KeepsLedger, entries_of}
use Rattle.positions.specs.Places.{Kept, Keeps}

pub keeps_read : (ledger stage : List ℕ) (disk : DiskState) (kept : Kept) → KeepsLedger (disk.seen ledger) kept → (entries : List Entry) (files : Files) → Recovers ledger stage entries files disk.seen → Keeps entries kept
keeps_read ledger stage disk kept load entries files recovers =
    let pairs : load.pairs ≡ recovers.pairs = one_ledger (disk.seen ledger) load.pairs recovers.pairs load.is recovers.is_ledger in
    let same : entries_of load.pairs ≡ entries = ap entries_of pairs ∙ sym recovers.entries_are in
    subst (λ (es : List Entry). Keeps es kept) same load.keeps
