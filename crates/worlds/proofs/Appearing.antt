-- A log appears.
use Rattle.std.proofs.Common.{◌≡◌, ◌≢◌, ⊎_elim, ℕ, ◌<◌, ◌^◌, true, List, [], ◌∷◌, ◌++◌, Some, refl, sym, ◌∙◌, ap, arith, inl, inr, subst}
use Rattle.ledger_model.specs.Entries.{Entry}
use Rattle.run_model.specs.Logs.{Rotation, names, numbers, Logs, Parting, generation_name, IsPast, IsFileOf, ShowsFiles, ShowsStems}
use Rattle.run_model.specs.Steps.{Grown}
use Rattle.run_model.proofs.Spans.{same_or_not}
use Rattle.worlds.specs.LogEvents.{Appears}
use Rattle.run_model.proofs.Generations.{one_stem}
use Rattle.worlds.proofs.Naming.{file_stays, stem_known}
use Rattle.run_model.specs.Logs.{IsKnown}
use Rattle.worlds.specs.Good.{KeepsNewest, IsDone, AreGood}
use Rattle.worlds.proofs.Appending.{none_some}

nil : (xs : List ℕ) → xs ++ [] ≡ xs
nil [] = refl
nil (x ∷ xs) = ap (λ t. x ∷ t) (nil xs)

pub appear_grows : (rotation : Rotation) (parting : Parting) (name : List ℕ) (old new : Logs) → Appears rotation parting name old new → Grown old.written new.written
appear_grows rotation parting name old new e = λ identity held is.
    let apart : identity ≢ e.identity = λ same. none_some (old.written identity) held (ap old.written same ∙ e.never) is in
    ([], e.written.elsewhere identity apart ∙ (is ∙ ap Some (sym (nil held))))

-- under numbers a stem that was rotated before isn't the new one
old_stem : (parting : Parting) (name : List ℕ) (old new : Logs) → AreGood numbers parting old → Appears numbers parting name old new → (stem : List ℕ) (count : ℕ) → old.rotations stem ≡ Some count → stem ≢ name
old_stem parting name old new good e stem count is same = let s = good.shows.stems stem count is in none_some (old.folder name) s.2.0 e.absent (ap old.folder (sym same) ∙ s.2.1)

file_appeared : (rotation : Rotation) (parting : Parting) (name : List ℕ) (old new : Logs) → AreGood rotation parting old → Appears rotation parting name old new → (other identity : List ℕ) → other ≢ name → IsFileOf rotation old other identity → IsFileOf rotation new other identity
file_appeared names parting name old new good e other identity apart f = file_stays names old new other identity e.appears_as.1 f
file_appeared numbers parting name old new good e other identity apart (inl f) = inl (f.0, e.appears_as.3.elsewhere other apart ∙ f.1, f.2)
file_appeared numbers parting name old new good e other identity apart (inr f) = inr (record {
  stem = f.stem;
  number = f.number;
  is_past = record { count = f.is_past.count; rotated = e.appears_as.3.elsewhere f.stem (old_stem parting name old new good e f.stem f.is_past.count f.is_past.rotated) ∙ f.is_past.rotated; some = f.is_past.some; past = f.is_past.past };
  name_is = f.name_is;
  identity_is = f.identity_is;
})

file_new : (rotation : Rotation) (parting : Parting) (name : List ℕ) (old new : Logs) (e : Appears rotation parting name old new) → IsFileOf rotation new name e.identity
file_new names parting name old new e = inl e.appears_as.0
file_new numbers parting name old new e = inl (0, e.appears_as.3.here, e.appears_as.0)

appear_shows : (rotation : Rotation) (parting : Parting) (name : List ℕ) (old new : Logs) → AreGood rotation parting old → Appears rotation parting name old new → ShowsFiles rotation parting new
appear_shows rotation parting name old new good e = record {
  shown = λ other held is_log there. ⊎_elim
      (λ same.
      let h : Some [] ≡ Some held = sym e.folder.here ∙ (ap new.folder (sym same) ∙ there) in
      (e.identity, subst (λ (n : List ℕ). IsFileOf rotation new n e.identity) (sym same) (file_new rotation parting name old new e), e.written.here ∙ h))
      (λ differs.
      let s = good.shows.files.shown other held is_log (sym (e.folder.elsewhere other differs) ∙ there) in
      let apart : s.0 ≢ e.identity = λ same. none_some (old.written s.0) held (ap old.written same ∙ e.never) s.2 in
      (s.0, file_appeared rotation parting name old new good e other s.0 differs s.1, e.written.elsewhere s.0 apart ∙ s.2))
      (same_or_not other name);
}

appear_stems : (rotation : Rotation) (parting : Parting) (name : List ℕ) (old new : Logs) → AreGood rotation parting old → Appears rotation parting name old new → ShowsStems rotation parting new
appear_stems names parting name old new good e = tt
appear_stems numbers parting name old new good e = λ stem count is. ⊎_elim
    (λ same.
    let h : Some 0 ≡ Some count = sym e.appears_as.3.here ∙ (ap new.rotations (sym same) ∙ is) in
    let zero : 0 ≡ count = cc in
    (subst (λ (n : List ℕ). parting.is_stem n ≡ true) (sym same) e.appears_as.1, subst (λ (n : ℕ). n < 2 ^ 63) zero (omega arith), ([], ap new.folder same ∙ e.folder.here)))
    (λ differs. let s = good.shows.stems stem count (sym (e.appears_as.3.elsewhere stem differs) ∙ is) in (s.0, s.1, (s.2.0, e.folder.elsewhere stem differs ∙ s.2.1)))
    (same_or_not stem name)

appear_known : (rotation : Rotation) (parting : Parting) (name : List ℕ) (old new : Logs) → AreGood rotation parting old → Appears rotation parting name old new → (identity held : List ℕ) → new.written identity ≡ Some held → IsKnown rotation parting new identity
appear_known names parting name old new good e identity held is = ⊎_elim
    (λ same. subst (λ (n : List ℕ). parting.is_log n ≡ true) (sym (same ∙ e.appears_as.0)) e.is_log)
    (λ differs. good.known identity held (sym (e.written.elsewhere identity differs) ∙ is))
    (same_or_not identity e.identity)
appear_known numbers parting name old new good e identity held is = ⊎_elim
    (λ same. record { stem = name; number = 1; count = 0; rotated = e.appears_as.3.here; some = omega arith; within = omega arith; is = same ∙ e.appears_as.0 })
    (λ differs.
    let k = good.known identity held (sym (e.written.elsewhere identity differs) ∙ is) in
    record { stem = k.stem; number = k.number; count = k.count; rotated = e.appears_as.3.elsewhere k.stem (old_stem parting name old new good e k.stem k.count k.rotated) ∙ k.rotated; some = k.some; within = k.within; is = k.is })
    (same_or_not identity e.identity)

-- a generation that was rotated is one of an older stem
past_old : (parting : Parting) (name : List ℕ) (old new : Logs) → AreGood numbers parting old → Appears numbers parting name old new → (stem : List ℕ) (number : ℕ) → IsPast new stem number → IsPast old stem number × (generation_name stem number ≢ name)
past_old parting name old new good e stem number past = ⊎_elim
    (λ same.
    let h : Some 0 ≡ Some past.count = sym e.appears_as.3.here ∙ (ap new.rotations (sym same) ∙ past.rotated) in
    let zero : 0 ≡ past.count = cc in
    let some = past.some in let low = past.past in absurd (omega arith))
    (λ differs.
    let was : old.rotations stem ≡ Some past.count = sym (e.appears_as.3.elsewhere stem differs) ∙ past.rotated in
    (record { count = past.count; rotated = was; some = past.some; past = past.past }, λ is. good.parts.no_stem name stem number e.appears_as.1 (stem_known parting old stem past.count good.shows.stems was) (sym is)))
    (same_or_not stem name)

other_identity : (parting : Parting) (name : List ℕ) (old new : Logs) → AreGood numbers parting old → (e : Appears numbers parting name old new) → (stem : List ℕ) (number : ℕ) → IsPast old stem number → generation_name stem number ≢ e.identity
other_identity parting name old new good e stem number past same =
    old_stem parting name old new good e stem past.count past.rotated (one_stem stem name number 1 (same ∙ e.appears_as.0))

appear_newest : (rotation : Rotation) (parting : Parting) (name : List ℕ) (old new : Logs) → AreGood rotation parting old → Appears rotation parting name old new → KeepsNewest rotation new
appear_newest names parting name old new good e = tt
appear_newest numbers parting name old new good e = λ stem count is some.
    let now : IsPast new stem count = record { count = count; rotated = is; some = some; past = omega arith } in
    let past = past_old parting name old new good e stem count now in
    let same : old.rotations stem ≡ Some count = ⊎_elim (λ s. absurd (let h : Some 0 ≡ Some count = sym e.appears_as.3.here ∙ (ap new.rotations (sym s) ∙ is) in let zero : 0 ≡ count = cc in omega arith)) (λ d. sym (e.appears_as.3.elsewhere stem d) ∙ is) (same_or_not stem name) in
    let w = good.newest stem count same some in
    (w.0, e.written.elsewhere (generation_name stem count) (other_identity parting name old new good e stem count past.0) ∙ w.1)

pub appear_good : (rotation : Rotation) (parting : Parting) (name : List ℕ) (old new : Logs) → AreGood rotation parting old → Appears rotation parting name old new → AreGood rotation parting new
appear_good rotation parting name old new good e = record {
  parts = good.parts;
  shows = record { files = appear_shows rotation parting name old new good e; stems = appear_stems rotation parting name old new good e };
  known = appear_known rotation parting name old new good e;
  newest = appear_newest rotation parting name old new good e;
}

pub appear_done : (rotation : Rotation) (parting : Parting) (name : List ℕ) (old new : Logs) (entries : List Entry) → AreGood rotation parting old → Appears rotation parting name old new → IsDone rotation old entries → IsDone rotation new entries
appear_done names parting name old new entries good e done = λ identity held written gone.
    let apart : identity ≢ name = λ same. none_some (new.folder name) [] (ap new.folder (sym same) ∙ gone) e.folder.here in
    let other : identity ≢ e.identity = λ same. apart (same ∙ e.appears_as.0) in
    done identity held (sym (e.written.elsewhere identity other) ∙ written) (sym (e.folder.elsewhere identity apart) ∙ gone)
appear_done numbers parting name old new entries good e done = record {
  gone = λ stem number held past written gone.
      let before = past_old parting name old new good e stem number past in
      let other = other_identity parting name old new good e stem number before.0 in
      done.gone stem number held before.0 (sym (e.written.elsewhere (generation_name stem number) other) ∙ written) (sym (e.folder.elsewhere (generation_name stem number) before.1) ∙ gone);
  passed = λ stem number later held past less knows written.
      let before = past_old parting name old new good e stem number past in
      let other = other_identity parting name old new good e stem number before.0 in
      done.passed stem number later held before.0 less knows (sym (e.written.elsewhere (generation_name stem number) other) ∙ written);
}
