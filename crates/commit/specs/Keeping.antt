-- What a ledger holds once its last entry is finished.
use Rattle.std.specs.Prelude.{◌≡◌, ℕ, List, map}
use Rattle.disk_model.specs.Disk.{Files}
use Rattle.ledger_model.specs.Ledgers.{Pair, IsLedger}
use Rattle.commit.specs.States.{LastIsDone}

-- a ledger holds the entries of these pairs, and the last of them is done
pub record HoldsDone (ledger : List ℕ) (before : List Pair) : Type 0 where
  pub pairs : List Pair
  pub is : IsLedger ledger pairs
  pub same : map (λ (pair : Pair). pair.entry) pairs ≡ map (λ (pair : Pair). pair.entry) before
  pub finished : LastIsDone pairs

-- the entries that the ledger held it holds, and the last of them is done
abbrev pub KeepsEntries : List ℕ → Files → Files → Type 0
KeepsEntries ledger before now = (pairs : List Pair) → IsLedger (before ledger) pairs → HoldsDone (now ledger) pairs
