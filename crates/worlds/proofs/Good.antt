-- What holds in each world, event by event.
use Rattle.std.proofs.Common.{◌≡◌, ◌⊎◌, ⊎_elim, ℕ, ◌+◌, ◌≤◌, true, List, [], ◌∷◌, ◌++◌, Option, Some, None, refl, sym, ◌∙◌, ap, arith, inl, inr, subst}
use Rattle.std.proofs.lemmas.Bool.{cases_lt}
use Rattle.lp_model.specs.Lines.{Line}
use Rattle.disk_model.specs.Disk.{Files}
use Rattle.ledger_model.specs.Entries.{Entry, Span}
use Rattle.run_model.specs.Logs.{Rotation, names, numbers, Written, Logs, Parting, generation_name, IsPast, IsFileOf, IsThere}
use Rattle.lp_model.specs.Complete.{IsAmong, IsLine}
use Rattle.run_model.specs.Kept.{spans_of, kept_place, HasSpan, Knows, IsLeft}
use Rattle.run_model.specs.Meanings.{Meaning}
use Rattle.run_model.specs.Right.{GoesOn, FollowFrom, IsSettled}
use Rattle.run_model.specs.Steps.{Setting, Grown}
use Rattle.run_model.proofs.Chains.{taken_or_left, none_left}
use Rattle.lp_model.proofs.CompleteLines.{among_cases, all_among}
use Rattle.run_model.proofs.Growing.{settled_kept}
use Rattle.worlds.specs.Headline.{StandsFor}
use Rattle.worlds.specs.Good.{AreGood, IsDone, IsFit}
use Rattle.worlds.proofs.Texts.{follow_texts}
use Rattle.worlds.proofs.Naming.{one_generation, file_written, past_is_log}

-- the log of each span was written
written_in : (meaning : Meaning) (written : Written) (before : List Entry) (files : Files) (entries : List Entry) (after : Files) → FollowFrom meaning written before files entries after → (span : Span) → IsAmong span (spans_of entries) → (bytes : List ℕ) × (written span.identity ≡ Some bytes)
written_in meaning written before files [] after f span among = absurd among
written_in meaning written before files (entry ∷ entries) after (next, here, more) span among = ⊎_elim
    (λ a. let g = all_among (GoesOn (meaning.format entry.input) written before) span entry.spans here.right.reads.go_on a in (g.bytes, g.is))
    (λ b. written_in meaning written (before ++ entry ∷ []) next entries after more span b)
    (among_cases span entry.spans (spans_of entries) among)

pub has_written : (meaning : Meaning) (written : Written) (start : Files) (entries : List Entry) (files : Files) (identity : List ℕ) → IsSettled meaning written start entries files → HasSpan identity (spans_of entries) → (bytes : List ℕ) × (written identity ≡ Some bytes)
has_written meaning written start entries files identity s has = let w = written_in meaning written [] start entries files s has.span has.among in (w.0, ap written (sym has.same) ∙ w.1)

-- a generation that entries know isn't behind the one that the stem's file is
pub known_within : (meaning : Meaning) (parting : Parting) (logs : Logs) (start : Files) (entries : List Entry) (files : Files) (stem : List ℕ) (number count : ℕ) → AreGood numbers parting logs → IsSettled meaning logs.written start entries files → logs.rotations stem ≡ Some count → Knows entries stem number → number ≤ count + 1
known_within meaning parting logs start entries files stem number count good s is knows =
    let w = has_written meaning logs.written start entries files (generation_name stem number) s knows in
    let g = good.known (generation_name stem number) w.0 w.1 in
    let same = one_generation parting logs stem g.stem number g.number count g.count good.parts good.shows.stems is g.rotated g.is in
    let x = same.1 in let y = same.2 in let within = g.within in omega arith

-- logs that keep all that was written keep what is settled
pub settled_grown : (meaning : Meaning) (old new : Written) (start : Files) (entries : List Entry) (files : Files) → Grown old new → IsSettled meaning old start entries files → IsSettled meaning new start entries files
settled_grown meaning old new start entries files grown s = settled_kept meaning old new start entries files (λ span among bytes is. grown span.identity bytes is) s

pub there_or_gone : (file : Option (List ℕ)) → (file ≡ None) ⊎ ((bytes : List ℕ) × (file ≡ Some bytes))
there_or_gone None = inl refl
there_or_gone (Some bytes) = inr (bytes, refl)

pub is_there_or_gone : (logs : Logs) (name : List ℕ) → (logs.folder name ≡ None) ⊎ ((bytes : List ℕ) × (logs.folder name ≡ Some bytes))
is_there_or_gone logs name = there_or_gone (logs.folder name)

-- a file of a log that is there has all that was written to it
there_with : (rotation : Rotation) (parting : Parting) (logs : Logs) (name identity held bytes : List ℕ) → AreGood rotation parting logs → parting.is_log name ≡ true → IsFileOf rotation logs name identity → logs.folder name ≡ Some held → logs.written identity ≡ Some bytes → IsThere rotation parting logs identity bytes
there_with rotation parting logs name identity held bytes good is_log is there written =
    let w = file_written rotation parting logs name identity held good.parts good.shows is_log is there in
    let same : Some held ≡ Some bytes = sym w ∙ written in
    record { name = name; is_log = is_log; is_file = is; holds = there ∙ same }

-- a log of which a line is left has its file
left_there : (rotation : Rotation) (parting : Parting) (logs : Logs) (entries : List Entry) (identity bytes : List ℕ) (line : Line) → AreGood rotation parting logs → IsDone rotation logs entries → logs.written identity ≡ Some bytes → IsLine bytes line → IsLeft identity line entries → IsThere rotation parting logs identity bytes
left_there names parting logs entries identity bytes line good done written among left = ⊎_elim
    (λ gone. absurd (none_left bytes line (kept_place identity entries) among (done identity bytes written gone) left.behind))
    (λ there. there_with names parting logs identity identity there.0 bytes good (good.known identity bytes written) (inl refl) there.1 written)
    (is_there_or_gone logs identity)
left_there numbers parting logs entries identity bytes line good done written among left =
    let g = good.known identity bytes written in
    let shows = good.shows.stems g.stem g.count g.rotated in
    elim (cases_lt g.count g.number) [
      | inl live ↦
          let within = g.within in
          let at : g.number ≡ g.count + 1 = omega arith in
          let is : identity ≡ generation_name g.stem (g.count + 1) = g.is ∙ ap (generation_name g.stem) at in
          there_with numbers parting logs g.stem identity shows.2.0 bytes good (good.parts.stem_is_log g.stem shows.0) (inl (g.count, g.rotated, is)) shows.2.1 written
      | inr past ↦
          let p : IsPast logs g.stem g.number = record { count = g.count; rotated = g.rotated; some = g.some; past = past } in
          let here : logs.written (generation_name g.stem g.number) ≡ Some bytes = ap logs.written (sym g.is) ∙ written in
          let file : IsFileOf numbers logs (generation_name g.stem g.number) identity = inr (record { stem = g.stem; number = g.number; is_past = p; name_is = refl; identity_is = g.is }) in
          ⊎_elim
          (λ gone.
          let later = done.gone g.stem g.number bytes p here gone in
          let last = done.passed g.stem g.number later.0 bytes p later.1 later.2 here in
          let place : kept_place (generation_name g.stem g.number) entries ≤ line.start = subst (λ (i : List ℕ). kept_place i entries ≤ line.start) g.is left.behind in
          absurd (none_left bytes line (kept_place (generation_name g.stem g.number) entries) among last place))
          (λ there. there_with numbers parting logs (generation_name g.stem g.number) identity there.0 bytes good (past_is_log parting logs g.stem g.number good.parts good.shows.stems p) file there.1 written)
          (is_there_or_gone logs (generation_name g.stem g.number))
    ]

-- so what is known gives what is promised
pub fit_stands : (meaning : Meaning) (setting : Setting) (logs : Logs) (image : Files) → AreGood setting.rotation setting.parting logs → IsFit meaning setting logs image → StandsFor meaning setting logs image
fit_stands meaning setting logs image good fit = record {
  entries = fit.entries;
  files = fit.files;
  recovers = fit.recovers;
  settled = fit.settled;
  texts = λ name. follow_texts meaning logs.written name [] setting.start fit.entries fit.files fit.settled;
  lines = λ identity bytes line written among. ⊎_elim
      (λ once. inl once)
      (λ left. inr (record { left = left; there = left_there setting.rotation setting.parting logs fit.entries identity bytes line good fit.done written among left }))
      (taken_or_left meaning logs.written setting.start fit.entries fit.files bytes identity line written fit.settled among);
}
