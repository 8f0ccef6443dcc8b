-- A payload that is written in pieces.
use Rattle.std.specs.Prelude.{◌≡◌, ◌⊎◌, ℕ, ◌+◌, ◌≤◌, List, [], ◌++◌, length}
use Rattle.disk_model.specs.Disk.{DiskState, Works, Shows, At, overwritten}
use Rattle.disk_changes.specs.Changes.{KeepsFront, Anything}

-- where the body begins, how many bytes of its payload are written, and those that wait
pub record Pending : Type 0 where
  pub at : ℕ
  pub count : ℕ
  pub ahead : List ℕ

-- From a place of a payload on these bytes were spelled. What is done of them is written over what the ledger was, and the others wait.
pub record HasSpelled (disk : DiskState) (ledger start : List ℕ) (from : ℕ) (speller : Pending) (bytes : List ℕ) : Type 0 where
  pub tells : disk.tells
  pub done : List ℕ
  pub parts : bytes ≡ done ++ speller.ahead
  pub count : speller.count ≡ from + length done
  pub seen : ((done ≡ []) × (disk.seen ledger ≡ start)) ⊎ (disk.seen ledger ≡ overwritten start (speller.at + 8 + from) done)

-- only the ledger changes, and not before the body
pub record Goes (before now : DiskState) (ledger : List ℕ) (old new : Pending) : Type 0 where
  pub at : new.at ≡ old.at
  pub crash : before.honest → old.at ≤ length (before.seen ledger) → Works (At ledger (KeepsFront old.at)) before now
  pub shows : before.tells → Shows (At ledger Anything) before now

-- some bytes more are spelled
pub record Spells (before now : DiskState) (ledger : List ℕ) (old new : Pending) (bytes : List ℕ) : Type 0 where
  pub size : new.count + length new.ahead ≡ old.count + length old.ahead + length bytes
  pub text : (start : List ℕ) (from : ℕ) (earlier : List ℕ) → HasSpelled before ledger start from old earlier → HasSpelled now ledger start from new (earlier ++ bytes)
