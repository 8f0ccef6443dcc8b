-- What is known of the end of a ledger stays known while its disk is read.
use Rattle.std.proofs.Common.{◌≡◌, ℕ, ◌+◌, ◌≤◌, ◌<◌, ◌^◌, List, Option, Some, None, Result, Ok, Err, true, false, sym, ◌∙◌, subst, arith}
use Rattle.std.specs.Prelude.{IfOk, IfSome}
use Rattle.disk_model.specs.Disk.{DiskState, Nothing, Works, Shows}
use Rattle.ledger.specs.Reader.{Rests}
use Rattle.ledger.specs.declared.walking.LastEntry.{LastEntry}
use Rattle.ledger.specs.declared.walking.End.{End}
use Rattle.ledger.proofs.Resting.{rests_made, rests_none, rests_then}
use Rattle.commit.specs.Known.{HasEnd, IsLow, IsReadSince, IsLastDone}

-- nothing need be known
pub read_none : (disk : DiskState) (ledger : List ℕ) → IsReadSince disk disk ledger None
read_none disk ledger = record { rests = rests_none disk; ends = tt }

pub read_on : (a b c : DiskState) (ledger : List ℕ) (known : Option End) → IsReadSince a b ledger known → Rests b c → IsReadSince a c ledger known
read_on a b c ledger known since rests = record { rests = rests_then a b c since.rests rests; ends = since.ends }

-- two calls that write nothing
pub read_twice : (a b c d : DiskState) (ledger : List ℕ) (known : Option End) → IsReadSince a b ledger known → (b.tells → Shows Nothing b c) → (b.honest → Works Nothing b c) → (c.tells → Shows Nothing c d) → (c.honest → Works Nothing c d)
    → IsReadSince a d ledger known
read_twice a b c d ledger known since shows crash later_shows later_crash = read_on a c d ledger known (read_on a b c ledger known since (rests_made b c shows crash)) (rests_made c d later_shows later_crash)

-- an entry that isn't done
pub not_done : (given : Option LastEntry) (last : LastEntry) → given ≡ Some last → last.done ≡ false → IsLastDone given → ⊥
not_done given last some undone done =
    let set : last.done ≡ true = subst IsLastDone some done in
    let both : true ≡ false = sym set ∙ undone in
    cc

-- where the last entry is done the end that a settling found is known behind it
pub found_on : (a b c : DiskState) (ledger : List ℕ) (known : Option End) (end : End) (found : Option End) → IsReadSince a b ledger known → HasEnd a ledger end → (IsLastDone end.last → Rests b c) → IfSome found (λ f. (f ≡ end) × IsLastDone end.last)
    → IfSome found (λ f. IsReadSince a c ledger (Some f))
found_on a b c ledger known end None since has rests is = tt
found_on a b c ledger known end (Some f) since has rests is = record { rests = rests_then a b c since.rests (rests is.1); ends = subst (HasEnd a ledger) (sym is.0) has }

pub found_low : (end : End) (found : Option End) → IsLow end → IfSome found (λ f. (f ≡ end) × IsLastDone end.last) → IfSome found IsLow
found_low end None low is = tt
found_low end (Some f) low is = subst IsLow (sym is.0) low

-- the places of an end that a walk found have 62 bits
pub walked_low : {E : Type 0} (result : Result End E) → IfOk result (λ end. end.pair + 2 ≤ 2 ^ 62) → IfOk result (λ end. IfSome end.last (λ last. last.pair + 10 + last.length ≤ end.pair)) → IfOk result IsLow
walked_low (Ok end) pair last = record { pair = pair; last = last }
walked_low (Err refused) pair last = tt

-- and those of its last entry
pub last_low : (last : Option LastEntry) (place : ℕ) → place + 2 ≤ 2 ^ 62 → IfSome last (λ l. l.pair + 10 + l.length ≤ place) → IfSome last (λ l. l.pair + l.length < 2 ^ 63)
last_low None place low is = tt
last_low (Some l) place low is = omega (arith, low, is)
