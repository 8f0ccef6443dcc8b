-- A write of the front of a file.
use Rattle.std.proofs.Common.{◌≡◌, ℕ, List, sym, subst}
use Rattle.disk_model.specs.Disk.{DiskState, Works, Shows, At, Nothing, Torn}

pub front_works : (old new : DiskState) (name : List ℕ) (most from to : ℕ) → from ≡ 0 → to ≡ most → Works (At name (Torn from to)) old new → Works (At name (Torn 0 most)) old new
front_works old new name most from to none all work =
    subst (λ (n : ℕ). Works (At name (Torn 0 n)) old new) all (subst (λ (n : ℕ). Works (At name (Torn n to)) old new) none work)

pub front_shows : (old new : DiskState) (name : List ℕ) (most from to : ℕ) → from ≡ 0 → to ≡ most → Shows (At name (Torn from to)) old new → Shows (At name (Torn 0 most)) old new
front_shows old new name most from to none all shows =
    subst (λ (n : ℕ). Shows (At name (Torn 0 n)) old new) all (subst (λ (n : ℕ). Shows (At name (Torn n to)) old new) none shows)

-- and then nothing more
pub shows_rests : (change : List ℕ → List ℕ → List ℕ → Type 0) (a b c : DiskState) → Shows change a b → Shows Nothing b c → Shows change a c
shows_rests change a b c f s = record { tells = s.tells; seen = λ name. subst (λ (bytes : List ℕ). change name (a.seen name) bytes) (sym (s.seen name)) (f.seen name) }
