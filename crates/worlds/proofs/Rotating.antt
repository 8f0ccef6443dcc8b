-- A stem is rotated.
use Rattle.std.proofs.Common.{◌≡◌, ◌≢◌, ◌⊎◌, ⊎_elim, ℕ, ◌+◌, ◌<◌, ◌≤◌, ◌^◌, true, List, [], ◌∷◌, ◌++◌, Some, None, refl, sym, ◌∙◌, ap, arith, inl, inr, subst}
use Rattle.std.proofs.lemmas.Bool.{cases_lt}
use Rattle.ledger_model.specs.Entries.{Entry}
use Rattle.run_model.specs.Logs.{numbers, Logs, Parting, generation_name, IsPast, IsRotated, IsFileOf, ShowsFiles, ShowsStems}
use Rattle.run_model.specs.Steps.{Grown}
use Rattle.run_model.proofs.Spans.{same_or_not}
use Rattle.worlds.specs.LogEvents.{Rotates}
use Rattle.run_model.proofs.Generations.{one_number}
use Rattle.worlds.proofs.Naming.{one_generation, file_written, stem_known}
use Rattle.disk_model.specs.Disk.{Files}
use Rattle.run_model.specs.Kept.{Knows}
use Rattle.run_model.specs.Meanings.{Meaning}
use Rattle.run_model.specs.Right.{IsSettled}
use Rattle.run_model.specs.Logs.{IsGeneration}
use Rattle.worlds.specs.Good.{IsPassed, AreGood}
use Rattle.worlds.proofs.Good.{known_within}
use Rattle.worlds.proofs.Appending.{none_some}

nil : (xs : List ℕ) → xs ++ [] ≡ xs
nil [] = refl
nil (x ∷ xs) = ap (λ t. x ∷ t) (nil xs)

module _ (parting : Parting) (stem : List ℕ) (old new : Logs) (good : AreGood numbers parting old) (e : Rotates numbers stem old new) where
  is_stem : parting.is_stem stem ≡ true
  is_stem = stem_known parting old stem e.count good.shows.stems e.was

  -- the new generation was never written
  never : (held : List ℕ) → old.written (generation_name stem (e.count + 2)) ≡ Some held → ⊥
  never held is =
      let k = good.known (generation_name stem (e.count + 2)) held is in
      let same = one_generation parting old stem k.stem (e.count + 2) k.number e.count k.count good.parts good.shows.stems e.was k.rotated k.is in
      let x = same.1 in let y = same.2 in let low = k.within in omega arith

  pub rotate_grows : Grown old.written new.written
  rotate_grows identity held is =
      let apart : identity ≢ generation_name stem (e.count + 2) = λ same. never held (ap old.written (sym same) ∙ is) in
      ([], e.written.elsewhere identity apart ∙ (is ∙ ap Some (sym (nil held))))

  -- the bytes of the file that is rotated are those of its generation
  moved_written : old.written (generation_name stem (e.count + 1)) ≡ Some e.bytes
  moved_written = file_written numbers parting old stem (generation_name stem (e.count + 1)) e.bytes good.parts good.shows (good.parts.stem_is_log stem is_stem) (inl (e.count, e.was, refl)) e.there

  rotated_now : (other : List ℕ) (number : ℕ) → IsPast old other number → IsPast new other number
  rotated_now other number past = ⊎_elim
      (λ same.
      let h : Some e.count ≡ Some past.count = sym e.was ∙ (ap old.rotations (sym same) ∙ past.rotated) in
      let is : e.count ≡ past.count = cc in
      let low = past.past in
      record { count = e.count + 1; rotated = ap new.rotations same ∙ e.rotations.here; some = past.some; past = omega arith })
      (λ differs. record { count = past.count; rotated = e.rotations.elsewhere other differs ∙ past.rotated; some = past.some; past = past.past })
      (same_or_not other stem)

  -- what was rotated is so since before, or only now
  past_or_new : (other : List ℕ) (number : ℕ) → IsPast new other number → IsPast old other number ⊎ ((other ≡ stem) × (number ≡ e.count + 1))
  past_or_new other number past = ⊎_elim
      (λ same.
      let h : Some (e.count + 1) ≡ Some past.count = sym e.rotations.here ∙ (ap new.rotations (sym same) ∙ past.rotated) in
      let is : e.count + 1 ≡ past.count = cc in
      let low = past.past in
      elim (cases_lt e.count number) [
        | inl last ↦ inr (same, omega arith)
        | inr before ↦ inl (record { count = e.count; rotated = ap old.rotations same ∙ e.was; some = past.some; past = before })
      ])
      (λ differs. inl (record { count = past.count; rotated = sym (e.rotations.elsewhere other differs) ∙ past.rotated; some = past.some; past = past.past }))
      (same_or_not other stem)

  past_known : (other : List ℕ) (number : ℕ) → IsPast old other number → parting.is_stem other ≡ true
  past_known other number past = stem_known parting old other past.count good.shows.stems past.rotated

  -- an older generation is apart from the stem, from the one that is rotated, and from the one that starts
  apart_stem : (other : List ℕ) (number : ℕ) → IsPast old other number → generation_name other number ≢ stem
  apart_stem other number past is = good.parts.no_stem stem other number is_stem (past_known other number past) (sym is)

  apart_by : (other : List ℕ) (number more : ℕ) → e.count < more → IsPast old other number → generation_name other number ≢ generation_name stem more
  apart_by other number more above past is =
      let same = one_generation parting old other stem number more past.count e.count good.parts good.shows.stems past.rotated e.was is in
      let x = same.1 in let y = same.2 in let low = past.past in absurd (omega arith)

  file_still : (other identity : List ℕ) → other ≢ stem → IsFileOf numbers old other identity → IsFileOf numbers new other identity
  file_still other identity apart (inl f) = inl (f.0, e.rotations.elsewhere other apart ∙ f.1, f.2)
  file_still other identity apart (inr f) = inr (record { stem = f.stem; number = f.number; is_past = rotated_now f.stem f.number f.is_past; name_is = f.name_is; identity_is = f.identity_is })

  shown_else : (other held : List ℕ) → other ≢ stem → other ≢ generation_name stem (e.count + 1) → parting.is_log other ≡ true → old.folder other ≡ Some held → (identity : List ℕ) × IsFileOf numbers new other identity × (new.written identity ≡ Some held)
  shown_else other held not_stem not_moved is_log there =
      let s = good.shows.files.shown other held is_log there in
      let apart : s.0 ≢ generation_name stem (e.count + 2) = λ same. never held (ap old.written (sym same) ∙ s.2) in
      (s.0, file_still other s.0 not_stem s.1, e.written.elsewhere s.0 apart ∙ s.2)

  new_past : IsPast new stem (e.count + 1)
  new_past = record { count = e.count + 1; rotated = e.rotations.here; some = omega arith; past = omega arith }

  two_numbers : generation_name stem (e.count + 1) ≢ generation_name stem (e.count + 2)
  two_numbers is = let h = one_number stem (e.count + 1) (e.count + 2) is in absurd (omega arith)

  rotate_shows : ShowsFiles numbers parting new
  rotate_shows = record {
    shown = λ other held is_log there. ⊎_elim
        (λ same.
        let h : Some [] ≡ Some held = sym e.begun ∙ (ap new.folder (sym same) ∙ there) in
        let next : e.count + 1 + 1 ≡ e.count + 2 = omega arith in
        (generation_name stem (e.count + 2), inl (e.count + 1, ap new.rotations same ∙ e.rotations.here, ap (generation_name stem) (sym next) ∙ ap (λ s. generation_name s (e.count + 1 + 1)) (sym same)), e.written.here ∙ h))
        (λ not_stem. ⊎_elim
        (λ same.
        let h : Some e.bytes ≡ Some held = sym e.moved ∙ (ap new.folder (sym same) ∙ there) in
        let file : IsRotated new other other = record { stem = stem; number = e.count + 1; is_past = new_past; name_is = same; identity_is = refl } in
        (other, inr file, ap new.written same ∙ (e.written.elsewhere (generation_name stem (e.count + 1)) two_numbers ∙ (moved_written ∙ h))))
        (λ not_moved. shown_else other held not_stem not_moved is_log (sym (e.files_stay other not_stem not_moved) ∙ there))
        (same_or_not other (generation_name stem (e.count + 1))))
        (same_or_not other stem);
  }

  rotate_stems : ShowsStems numbers parting new
  rotate_stems other count is = ⊎_elim
      (λ same.
      let h : Some (e.count + 1) ≡ Some count = sym e.rotations.here ∙ (ap new.rotations (sym same) ∙ is) in
      let at : e.count + 1 ≡ count = cc in
      (subst (λ (s : List ℕ). parting.is_stem s ≡ true) (sym same) is_stem, subst (λ (n : ℕ). n < 2 ^ 63) at e.fits, ([], ap new.folder same ∙ e.begun)))
      (λ differs.
      let was : old.rotations other ≡ Some count = sym (e.rotations.elsewhere other differs) ∙ is in
      let s = good.shows.stems other count was in
      let apart : other ≢ generation_name stem (e.count + 1) = good.parts.no_stem other stem (e.count + 1) s.0 is_stem in
      (s.0, s.1, (s.2.0, e.files_stay other differs apart ∙ s.2.1)))
      (same_or_not other stem)

  rotate_known : (identity held : List ℕ) → new.written identity ≡ Some held → IsGeneration new identity
  rotate_known identity held is = ⊎_elim
      (λ same. record { stem = stem; number = e.count + 2; count = e.count + 1; rotated = e.rotations.here; some = omega arith; within = omega arith; is = same })
      (λ differs.
      let k = good.known identity held (sym (e.written.elsewhere identity differs) ∙ is) in
      let low = k.within in
      ⊎_elim
      (λ same.
      let h : Some e.count ≡ Some k.count = sym e.was ∙ (ap old.rotations (sym same) ∙ k.rotated) in
      let at : e.count ≡ k.count = cc in
      record { stem = stem; number = k.number; count = e.count + 1; rotated = e.rotations.here; some = k.some; within = omega arith; is = k.is ∙ ap (λ s. generation_name s k.number) same })
      (λ apart. record { stem = k.stem; number = k.number; count = k.count; rotated = e.rotations.elsewhere k.stem apart ∙ k.rotated; some = k.some; within = k.within; is = k.is })
      (same_or_not k.stem stem))
      (same_or_not identity (generation_name stem (e.count + 2)))

  rotate_newest : (other : List ℕ) (count : ℕ) → new.rotations other ≡ Some count → 1 ≤ count → (bytes : List ℕ) × (new.written (generation_name other count) ≡ Some bytes)
  rotate_newest other count is some = ⊎_elim
      (λ same.
      let h : Some (e.count + 1) ≡ Some count = sym e.rotations.here ∙ (ap new.rotations (sym same) ∙ is) in
      let at : e.count + 1 ≡ count = cc in
      let name_is : generation_name other count ≡ generation_name stem (e.count + 1) = ap (λ s. generation_name s count) same ∙ ap (generation_name stem) (sym at) in
      (e.bytes, ap new.written name_is ∙ (e.written.elsewhere (generation_name stem (e.count + 1)) two_numbers ∙ moved_written)))
      (λ differs.
      let was : old.rotations other ≡ Some count = sym (e.rotations.elsewhere other differs) ∙ is in
      let past : IsPast old other count = record { count = count; rotated = was; some = some; past = omega arith } in
      let w = good.newest other count was some in
      (w.0, e.written.elsewhere (generation_name other count) (apart_by other count (e.count + 2) (omega arith) past) ∙ w.1))
      (same_or_not other stem)

  pub rotate_good : AreGood numbers parting new
  rotate_good = record { parts = good.parts; shows = record { files = rotate_shows; stems = rotate_stems }; known = rotate_known; newest = rotate_newest }

  -- of an older generation all is as before
  written_before : (other held : List ℕ) (number : ℕ) → IsPast old other number → new.written (generation_name other number) ≡ Some held → old.written (generation_name other number) ≡ Some held
  written_before other held number past is = sym (e.written.elsewhere (generation_name other number) (apart_by other number (e.count + 2) (omega arith) past)) ∙ is

  folder_before : (other : List ℕ) (number : ℕ) → IsPast old other number → new.folder (generation_name other number) ≡ None → old.folder (generation_name other number) ≡ None
  folder_before other number past gone = sym (e.files_stay (generation_name other number) (apart_stem other number past) (apart_by other number (e.count + 1) (omega arith) past)) ∙ gone

  pub rotate_done : (meaning : Meaning) (start : Files) (entries : List Entry) (files : Files) → IsSettled meaning old.written start entries files → IsPassed old entries → IsPassed new entries
  rotate_done meaning start entries files settled done = record {
    gone = λ other number held past written gone. ⊎_elim
        (λ before. done.gone other number held before (written_before other held number before written) (folder_before other number before gone))
        (λ is.
        let name_is : generation_name other number ≡ generation_name stem (e.count + 1) = ap (λ s. generation_name s number) is.0 ∙ ap (generation_name stem) is.1 in
        absurd (none_some (new.folder (generation_name other number)) e.bytes gone (ap new.folder name_is ∙ e.moved)))
        (past_or_new other number past);
    passed = λ other number later held past less knows written. ⊎_elim
        (λ before. done.passed other number later held before less knows (written_before other held number before written))
        (λ is.
        let high = known_within meaning parting old start entries files stem later e.count good settled e.was (subst (λ (s : List ℕ). Knows entries s later) is.0 knows) in
        let at = is.1 in absurd (omega arith))
        (past_or_new other number past);
  }
