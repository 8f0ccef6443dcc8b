-- What is known of the end of a ledger, from a moment on since when its disk was only read.
use Rattle.std.specs.Prelude.{◌≡◌, ℕ, ◌+◌, ◌≤◌, ◌^◌, true, List, Option, Some, None, IfSome}
use Rattle.disk_model.specs.Disk.{DiskState}
use Rattle.ledger.specs.Reader.{Holds, Rests}
use Rattle.ledger.specs.Walking.{IsEnd}
use Rattle.ledger.specs.declared.walking.LastEntry.{LastEntry}
use Rattle.ledger.specs.declared.walking.End.{End}

-- a ledger that a disk tells ends here
abbrev pub HasEnd : DiskState → List ℕ → End → Type 0
HasEnd disk ledger end = (file : List ℕ) → Holds disk ledger file → IsEnd file end

-- the places of an end have 62 bits
pub record IsLow (end : End) : Type 0 where
  pub pair : end.pair + 2 ≤ 2 ^ 62
  pub last : IfSome end.last (λ last. last.pair + 10 + last.length ≤ end.pair)

-- between two moments a disk was only read, and at the first of them its ledger had the end that is known, if one is
pub record IsReadSince (earlier now : DiskState) (ledger : List ℕ) (known : Option End) : Type 0 where
  pub rests : Rests earlier now
  pub ends : IfSome known (HasEnd earlier ledger)

-- there is a last entry, and it is done
abbrev pub IsLastDone : Option LastEntry → Type 0
IsLastDone None = ⊥
IsLastDone (Some last) = last.done ≡ true
