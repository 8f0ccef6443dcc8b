-- Calls that are done again give an image.
use Rattle.std.proofs.Common.{◌≡◌, ◌≢◌, ⊎_elim, ℕ, ◌+◌, ◌-◌, ◌≤◌, ◌<◌, min, true, false, List, [], ◌∷◌, ◌++◌, length, get_or, take, drop, replicate, refl, sym, ◌∙◌, ap, subst, arith, append_assoc, append-nil, length-append}
use Rattle.std.proofs.lemmas.List.{take_all, drop_at, take-take, take-append-le, length-take-le, length-drop, length-replicate, take_min}
use Rattle.disk_model.specs.Disk.{Files, Torn, Shortened, overwritten, start_of}
use Rattle.disk_model.proofs.DiskSteps.{same_or_not, At-none}
use Rattle.memory_outside.specs.Store.{Stepped, LeavesFrom, LeavesFirst, MayLeave}
use Rattle.memory_outside.specs.Crash.{crashed, replayed, filled, is_unsynced, next_of, Replays, AreImage}
use Rattle.memory_outside.specs.declared.store.Call.{Call}
use Rattle.memory_outside.specs.declared.store.Call.TheVariants.{Write, Cut, Sync}
use Rattle.memory_outside.specs.declared.replaying.Torn.{Torn as TornItem}
use Rattle.memory_outside.specs.declared.replaying.Torn.TheVariants.{Kept, Lost, Filled}
use Rattle.memory_outside.proofs.MemorySteps.{leaves_add, put_at, put_here, put_elsewhere, torn_same, torn_overwritten, cut_same, cut_done}

-- what may be left after more calls comes from something before them
passed : (calls : List Call) (leaves : List ℕ → List ℕ → Type 0) (name c : List ℕ) → LeavesFrom leaves calls name c → (d : List ℕ) × leaves name d
passed [] leaves name c left = (c, left)
passed (Write n gap at bytes ∷ calls) leaves name c left = let o = passed calls (Stepped leaves (Write n gap at bytes)) name c left in (o.1.0, o.1.1)
passed (Cut n to ∷ calls) leaves name c left = let o = passed calls (Stepped leaves (Cut n to)) name c left in (o.1.0, o.1.1)
passed (Sync n bytes ∷ calls) leaves name c left = let o = passed calls (Stepped leaves (Sync n bytes)) name c left in (o.0, o.1.0)

-- what a sync noted might have been left before it
sync_was : (before : List Call) (leaves : List ℕ → List ℕ → Type 0) (name bytes : List ℕ) (behind : List Call) (c : List ℕ) → LeavesFrom leaves (before ++ Sync name bytes ∷ behind) name c → LeavesFrom leaves before name bytes
sync_was [] leaves name bytes behind c left = let o = passed behind (Stepped leaves (Sync name bytes)) name c left in subst (leaves name) (o.1.1 refl) o.1.0
sync_was (x ∷ before) leaves name bytes behind c left = sync_was before (Stepped leaves x) name bytes behind c left

-- a call done again gives an image after it
pub stepped : (first : Files) (before : List Call) (call : Call) (behind : List Call) (f g : Files) → ((name : List ℕ) → (c : List ℕ) × MayLeave first (before ++ call ∷ behind) name c) → ((name : List ℕ) → MayLeave first before name (f name)) → Replays call f g
    → (name : List ℕ) → MayLeave first (before ++ call ∷ []) name (g name)
stepped first before (Write n gap at bytes) behind f g some kept replays name = leaves_add before (LeavesFirst first) (Write n gap at bytes) name (g name) (f name, kept name, replays name)
stepped first before (Cut n to) behind f g some kept replays name = leaves_add before (LeavesFirst first) (Cut n to) name (g name) (f name, kept name, replays name)
stepped first before (Sync n bytes) behind f g some kept replays name = leaves_add before (LeavesFirst first) (Sync n bytes) name (g name) (⊎_elim here elsewhere (same_or_not name n))
  where
    here : name ≡ n → MayLeave first before name (g name) × (name ≡ n → g name ≡ bytes)
    here e =
        let was : MayLeave first before n bytes = sync_was before (LeavesFirst first) n bytes behind (some n).0 (some n).1 in
        let is : g name ≡ bytes = ap g e ∙ ap (λ (h : Files). h n) replays ∙ put_here n bytes f in
        (subst (MayLeave first before name) (sym is) (subst (λ (m : List ℕ). MayLeave first before m bytes) (sym e) was), λ e2. is)

    elsewhere : name ≢ n → MayLeave first before name (g name) × (name ≡ n → g name ≡ bytes)
    elsewhere off = (subst (MayLeave first before name) (sym (ap (λ (h : Files). h name) replays ∙ put_elsewhere n bytes f name off)) (kept name), λ e. absurd (off e))

-- a write that is kept, on whatever image
pub torn_kept : (d : List ℕ) (from place : ℕ) (bytes : List ℕ) → from ≤ place → Torn from (place + length bytes) d (overwritten d place bytes)
torn_kept d from place bytes le =
    let gap : List ℕ = replicate (place - length d) 0 in
    let front : List ℕ = take place (d ++ gap) in
    let reach : length (d ++ gap) ≡ length d + (place - length d) = length-append d gap ∙ ap (λ (n : ℕ). length d + n) (length-replicate {A = ℕ} (place - length d) 0) in
    let size : length front ≡ place = length-take-le place (d ++ gap) (omega (arith, reach)) in
    let back : List ℕ = drop (place + length bytes) d in
    let whole : overwritten d place bytes ≡ front ++ (bytes ++ back) = append_assoc front bytes back in
    let long : length (overwritten d place bytes) ≡ place + (length bytes + length back) = ap length whole ∙ length-append front (bytes ++ back) ∙ (λ i. size i + length-append bytes back i) in
    let n : ℕ = min from (length d) in
    record {
      before = ap (λ (l : List ℕ). take n l) whole ∙ take-append-le n front (bytes ++ back) (omega (arith, size, le)) ∙ take-take n place (d ++ gap) (omega (arith, le)) ∙ take-append-le n d gap (omega arith) ∙ take_min from d;
      after = drop_at (front ++ bytes) back (place + length bytes) (length-append front bytes ∙ ap (λ (m : ℕ). m + length bytes) size);
      no_shorter = omega (arith, long, length-drop (place + length bytes) d);
      no_longer = omega (arith, long, length-drop (place + length bytes) d);
    }

-- a write whose bytes are all one byte
pub torn_filled : (d : List ℕ) (from to byte : ℕ) → from ≤ to → Torn from to d (filled from to byte d)
torn_filled d from to byte le =
    let start : ℕ = min from (length d) in
    let bytes : List ℕ = replicate (to - start) byte in
    let size : length bytes ≡ to - start = length-replicate {A = ℕ} (to - start) byte in
    let t : Torn (start_of d start) (start + length bytes) d (overwritten d start bytes) = torn_overwritten d start bytes in
    let begin : start_of d start ≡ start = omega arith in
    let end : start + length bytes ≡ to = omega (arith, size, le) in
    let u : Torn start to d (overwritten d start bytes) = subst (λ (n : ℕ). Torn start n d (overwritten d start bytes)) end (subst (λ (n : ℕ). Torn n (start + length bytes) d (overwritten d start bytes)) begin t) in
    record {
      before = ap (λ (n : ℕ). take n (overwritten d start bytes)) small ∙ u.before ∙ take_min from d;
      after = u.after;
      no_shorter = u.no_shorter;
      no_longer = u.no_longer;
    }
  where
    small : min from (length d) ≡ min (min from (length d)) (length d)
    small = omega arith

-- each way to do a call again
pub replays : (torn : TornItem) (call : Call) (f : Files) → Replays call f (replayed torn call f)
replays Kept (Write name gap at bytes) f = put_at name (overwritten (f name) at bytes) f (Torn (at - gap) (at + length bytes)) (torn_kept (f name) (at - gap) at bytes (omega arith))
replays Lost (Write name gap at bytes) f = λ other. At-none name (Torn (at - gap) (at + length bytes)) (torn_same (at - gap) (at + length bytes)) other (f other)
replays (Filled byte) (Write name gap at bytes) f = put_at name (filled (at - gap) (at + length bytes) byte (f name)) f (Torn (at - gap) (at + length bytes)) (torn_filled (f name) (at - gap) (at + length bytes) byte (omega arith))
replays Kept (Cut name to) f = put_at name (take to (f name)) f (Shortened to) (cut_done to (f name))
replays Lost (Cut name to) f = λ other. At-none name (Shortened to) (cut_same to) other (f other)
replays (Filled byte) (Cut name to) f = put_at name (take to (f name)) f (Shortened to) (cut_done to (f name))
replays Kept (Sync name bytes) f = refl
replays Lost (Sync name bytes) f = refl
replays (Filled byte) (Sync name bytes) f = refl

pub replays_by : (torn : TornItem) (call : Call) (f g : Files) → g ≡ replayed torn call f → Replays call f g
replays_by torn call f g is = subst (Replays call f) (sym is) (replays torn call f)

-- one call of those that are left
pub next_synced : (torn : List TornItem) (call : Call) (behind : List Call) (f : Files) → is_unsynced call behind ≡ false → crashed torn behind (replayed Lost call f) ≡ crashed torn (call ∷ behind) f
next_synced torn call behind f e = rw e refl

pub next_unsynced : (torn : List TornItem) (call : Call) (behind : List Call) (f : Files) → is_unsynced call behind ≡ true → crashed (drop 1 torn) behind (replayed (next_of torn) call f) ≡ crashed torn (call ∷ behind) f
next_unsynced torn call behind f e = rw e refl

-- where the loop over the calls stands
pub record Stands (first f : Files) (calls behind : List Call) (all torn : List TornItem) : Type 0 where
  pub exact : crashed torn behind f ≡ crashed all calls first
  pub done : List Call
  pub parts : calls ≡ done ++ behind
  pub image : ((name : List ℕ) → (c : List ℕ) × MayLeave first calls name c) → (name : List ℕ) → MayLeave first done name (f name)

pub stands_first : (first f : Files) (calls : List Call) (all : List TornItem) → f ≡ first → Stands first f calls calls all all
stands_first first f calls all same = record {
  exact = ap (λ (h : Files). crashed all calls h) same;
  done = [];
  parts = refl;
  image = λ some name. ap (λ (h : Files). h name) same;
}

pub stands_next : (first f g : Files) (calls behind later : List Call) (call : Call) (all torn rest : List TornItem) → Stands first f calls behind all torn → behind ≡ call ∷ later
    → crashed rest later g ≡ crashed torn (call ∷ later) f → Replays call f g → Stands first g calls later all rest
stands_next first f g calls behind later call all torn rest s is exact replays =
    let parts : calls ≡ s.done ++ (call ∷ later) = s.parts ∙ ap (λ (l : List Call). s.done ++ l) is in
    record {
      exact = exact ∙ ap (λ (l : List Call). crashed torn l f) (sym is) ∙ s.exact;
      done = s.done ++ call ∷ [];
      parts = parts ∙ sym (append_assoc s.done (call ∷ []) later);
      image = λ some name. stepped first s.done call later f g (subst (λ (l : List Call). (n : List ℕ) → (c : List ℕ) × MayLeave first l n c) parts some) (s.image some) replays name;
    }

pub stands_last : (first f : Files) (calls behind : List Call) (all torn : List TornItem) → Stands first f calls behind all torn → length behind < 1 → (f ≡ crashed all calls first) × AreImage first calls f
stands_last first f calls [] all torn s none = (s.exact, λ some name. subst (λ (l : List Call). MayLeave first l name (f name)) (sym (s.parts ∙ append-nil s.done)) (s.image some name))
stands_last first f calls (call ∷ behind) all torn s none = absurd (omega (arith, none))

-- the first of some calls, and the others as code takes them
pub parted : (behind : List Call) (call : Call) → 1 ≤ length behind → call ≡ get_or behind 0 call → behind ≡ call ∷ take (length behind - 1) (drop 1 behind)
parted [] call some is = absurd (omega (arith, some))
parted (x ∷ behind) call some is = λ i. sym is i ∷ sym (take_all (length (x ∷ behind) - 1) behind (omega arith)) i
