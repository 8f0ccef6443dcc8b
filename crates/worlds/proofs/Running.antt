-- The program runs.
use Rattle.std.proofs.Common.{◌≡◌, ◌⊎◌, ⊎_elim, ℕ, zero, suc, ◌+◌, ◌-◌, ◌<◌, ◌≤◌, ◌^◌, max, List, [], ◌∷◌, ◌++◌, length, take, Option, Some, None, IsSome, refl, sym, ◌∙◌, ap, arith, inl, inr, subst, append_assoc}
use Rattle.std.specs.List.{AllByRecursion, AllZip}
use Rattle.std.specs.Prelude.{MatchOption, IsSomeAnd, unwrap_or}
use Rattle.std.proofs.lemmas.Bool.{cases_lt, false≢true}
use Rattle.std.proofs.Math.Seq.{take-length}
use Rattle.lp_model.specs.Following.{IsLineEnd}
use Rattle.lp_model.specs.Outside.{Folder, Begins, bytes_in}
use Rattle.disk_model.specs.Disk.{Files}
use Rattle.ledger_model.specs.Entries.{Entry, Span}
use Rattle.run_model.specs.Logs.{Rotation, names, numbers, Written, Logs, Parting, generation_name, IsPast, IsRotated, IsLastEnd}
use Rattle.lp_model.specs.Complete.{IsAmong}
use Rattle.run_model.specs.Kept.{spans_of, kept_place, HasSpan, Knows}
use Rattle.run_model.specs.Meanings.{Meaning}
use Rattle.run_model.specs.Right.{GoesOn, IsNext, FollowFrom, IsSettled}
use Rattle.run_model.specs.Listed.{Listed, rotated_files, live_files, IsThereAt, IsFirst, ListsStem, joined, Lists, IsReadTo, AreListed}
use Rattle.run_model.specs.Steps.{Gain}
use Rattle.run_model.proofs.Spans.{spans_of-push, kept_place-push, place_cases}
use Rattle.run_model.proofs.Chains.{kept_ends}
use Rattle.lp_model.proofs.CompleteLines.{among_left, among_right, among_cases, all_among}
use Rattle.worlds.proofs.Naming.{one_generation, file_written, past_is_log}
use Rattle.worlds.specs.Good.{KeepsNewest, IsPassed, IsDone, AreGood}
use Rattle.worlds.proofs.Good.{there_or_gone, is_there_or_gone}
use Rattle.worlds.proofs.Removing.{taken_last}
use Rattle.worlds.proofs.Appending.{none_some, known_stays, past_before}

nil : {X : Type 0} (xs : List X) → xs ++ [] ≡ xs
nil [] = refl
nil (x ∷ xs) = ap (λ t. x ∷ t) (nil xs)

-- one entry more
push_from : (meaning : Meaning) (written : Written) (before : List Entry) (files : Files) (entries : List Entry) (mid : Files) (entry : Entry) (after : Files) → FollowFrom meaning written before files entries mid → IsNext meaning written (before ++ entries) mid entry after
    → FollowFrom meaning written before files (entries ++ entry ∷ []) after
push_from meaning written before files [] mid entry after f next =
    let same : mid ≡ files = λ i. λ name. f name i in
    let none : before ++ [] ≡ before = nil before in
    (after, subst (λ (b : List Entry). IsNext meaning written b files entry after) none (subst (λ (m : Files). IsNext meaning written (before ++ []) m entry after) same next), λ name. refl)
push_from meaning written before files (x ∷ entries) mid entry after (then, here, more) next =
    (then, here, push_from meaning written (before ++ x ∷ []) then entries mid entry after more (subst (λ (b : List Entry). IsNext meaning written b mid entry after) (sym (append_assoc before (x ∷ []) entries)) next))

pub settled_push : (meaning : Meaning) (written : Written) (start : Files) (entries : List Entry) (files : Files) (entry : Entry) (after : Files) → IsSettled meaning written start entries files → IsNext meaning written entries files entry after → IsSettled meaning written start (entries ++ entry ∷ []) after
settled_push meaning written start entries files entry after s next = push_from meaning written [] start entries files entry after s next

-- a log of which all lines are taken stays so with an entry more
full_stays : (meaning : Meaning) (written : Written) (entries : List Entry) (files : Files) (entry : Entry) (after : Files) (identity bytes : List ℕ) → IsNext meaning written entries files entry after → written identity ≡ Some bytes → IsLastEnd bytes (kept_place identity entries) → IsLastEnd bytes (kept_place identity (entries ++ entry ∷ []))
full_stays meaning written entries files entry after identity bytes next is last =
    let here = kept_place-push identity entries entry in
    ⊎_elim
    (λ none. subst (IsLastEnd bytes) (sym (here ∙ none.1)) last)
    (λ ends.
    let g = all_among (GoesOn (meaning.format entry.input) written entries) ends.span entry.spans next.right.reads.go_on ends.among in
    let h : Some g.bytes ≡ Some bytes = sym g.is ∙ (ap written ends.same ∙ is) in
    let bytes_are : g.bytes ≡ bytes = cc in
    let from : ends.span.from ≡ kept_place identity entries = g.from_is ∙ ap (λ i. kept_place i entries) ends.same in
    let forward = g.forward in
    let most = last.last ends.span.to (subst (λ (b : List ℕ). IsLineEnd b ends.span.to) bytes_are g.ends) in
    let at : kept_place identity entries ≡ ends.span.to = omega arith in
    subst (IsLastEnd bytes) (at ∙ sym (here ∙ ends.place_is)) last)
    (place_cases identity (kept_place identity entries) entry.spans)

knows_push : (entries : List Entry) (entry : Entry) (stem : List ℕ) (number : ℕ) → Knows entries stem number → Knows (entries ++ entry ∷ []) stem number
knows_push entries entry stem number k = record { span = k.span; among = subst (IsAmong k.span) (sym (spans_of-push entries entry)) (among_left k.span (spans_of entries) entry.spans k.among); same = k.same }

knows_cases : (entries : List Entry) (entry : Entry) (stem : List ℕ) (number : ℕ) → Knows (entries ++ entry ∷ []) stem number → Knows entries stem number ⊎ HasSpan (generation_name stem number) entry.spans
knows_cases entries entry stem number k = ⊎_elim
    (λ a. inl (record { span = k.span; among = a; same = k.same }))
    (λ b. inr (record { span = k.span; among = b; same = k.same }))
    (among_cases k.span (spans_of entries) entry.spans (subst (IsAmong k.span) (spans_of-push entries entry) k.among))

-- the file that a span was read of, and the span of a file
listed_of : (entries : List Entry) (before now : Folder) (files : List Listed) (spans : List Span) (span : Span) → AllZip (IsReadTo entries before now) files spans → IsAmong span spans → (file : Listed) × IsAmong file files × IsReadTo entries before now file span
listed_of entries before now [] [] span zip among = absurd among
listed_of entries before now [] (s ∷ spans) span zip among = absurd zip
listed_of entries before now (f ∷ files) [] span zip among = absurd among
listed_of entries before now (f ∷ files) (s ∷ spans) span (r, zip) (inl e) = (f, inl refl, subst (IsReadTo entries before now f) (sym e) r)
listed_of entries before now (f ∷ files) (s ∷ spans) span (r, zip) (inr among) = let more = listed_of entries before now files spans span zip among in (more.0, inr more.1, more.2)

span_of : (entries : List Entry) (before now : Folder) (files : List Listed) (spans : List Span) (file : Listed) → AllZip (IsReadTo entries before now) files spans → IsAmong file files → (span : Span) × IsAmong span spans × IsReadTo entries before now file span
span_of entries before now [] spans file zip among = absurd among
span_of entries before now (f ∷ files) [] file zip among = absurd zip
span_of entries before now (f ∷ files) (s ∷ spans) file (r, zip) (inl e) = (s, inl refl, subst (λ (x : Listed). IsReadTo entries before now x s) (sym e) r)
span_of entries before now (f ∷ files) (s ∷ spans) file (r, zip) (inr among) = let more = span_of entries before now files spans file zip among in (more.0, inr more.1, more.2)

-- the stem of a file that is listed
stem_of : (folder : Folder) (entries : List Entry) (reached : List (List ℕ)) (each : List (List Listed)) (file : Listed) → AllZip (ListsStem folder entries) reached each → IsAmong file (joined each)
    → (stem : List ℕ) × IsAmong stem reached × ((files : List Listed) × ListsStem folder entries stem files × IsAmong file files × ((other : Listed) → IsAmong other files → IsAmong other (joined each)))
stem_of folder entries [] [] file zip among = absurd among
stem_of folder entries [] (fs ∷ each) file zip among = absurd zip
stem_of folder entries (stem ∷ reached) [] file zip among = absurd among
stem_of folder entries (stem ∷ reached) (fs ∷ each) file (l, zip) among = ⊎_elim
    (λ a. (stem, inl refl, (fs, l, a, λ other is. among_left other fs (joined each) is)))
    (λ b. let more = stem_of folder entries reached each file zip b in (more.0, inr more.1, (more.2.0, more.2.1, more.2.2, λ other is. among_right other fs (joined each) (more.2.3 other is))))
    (among_cases file fs (joined each) among)

-- a rotated file that is listed has a number between, and each such is listed
rotated_number : (stem : List ℕ) (first count : ℕ) (file : Listed) → IsAmong file (rotated_files stem first count) → (number : ℕ) × (first ≤ number) × (number < first + count) × (file.identity ≡ generation_name stem number)
rotated_number stem first zero file among = absurd among
rotated_number stem first (suc count) file (inl e) = (first, omega arith, omega arith, ap (λ (f : Listed). f.identity) e)
rotated_number stem first (suc count) file (inr among) = let more = rotated_number stem (first + 1) count file among in let a = more.1 in let b = more.2 in (more.0, omega arith, omega arith, more.3)

rotated_listed : (stem : List ℕ) (first count number : ℕ) → first ≤ number → number < first + count → IsAmong (record { name = generation_name stem number; identity = generation_name stem number }) (rotated_files stem first count)
rotated_listed stem first zero number low high = absurd (omega arith)
rotated_listed stem first (suc count) number low high = elim (cases_lt first number) [
  | inl above ↦ inr (rotated_listed stem (first + 1) count number (omega arith) (omega arith))
  | inr at ↦ let same : number ≡ first = omega arith in inl (λ i. record { name = generation_name stem (same i); identity = generation_name stem (same i) })
]

live_number : (file : Option (List ℕ)) (stem : List ℕ) (number : ℕ) (listed : Listed) → IsAmong listed (live_files file stem number) → listed.identity ≡ generation_name stem number
live_number None stem number listed among = absurd among
live_number (Some bytes) stem number listed (inl e) = ap (λ (f : Listed). f.identity) e
live_number (Some bytes) stem number listed (inr among) = absurd among

some_value : (number : Option ℕ) → IsSome number → (count : ℕ) × (number ≡ Some count)
some_value None is = absurd (false≢true is)
some_value (Some count) is = (count, refl)

is_some : (file : Option (List ℕ)) (bytes : List ℕ) → file ≡ Some bytes → IsSome file
is_some file bytes e = rw e refl

some_bytes : (file : Option (List ℕ)) → IsSome file → (bytes : List ℕ) × (file ≡ Some bytes)
some_bytes None is = absurd (false≢true is)
some_bytes (Some bytes) is = (bytes, refl)

-- what isn't there after a call wasn't there before it
still_gone : (before now : Option (List ℕ)) → MatchOption before (now ≡ None) (λ old. IsSomeAnd now (λ new. Begins old new)) → now ≡ None → before ≡ None
still_gone None now grows gone = refl
still_gone (Some bytes) None grows gone = absurd grows
still_gone (Some bytes) (Some more) grows gone = let e : Some more ≡ None = gone in absurd (cc)

gain_newest : (rotation : Rotation) (parting : Parting) (old new : Logs) → AreGood rotation parting old → Gain rotation parting old new → KeepsNewest rotation new
gain_newest names parting old new good gain = tt
gain_newest numbers parting old new good gain = λ stem count is some.
    let w = good.newest stem count (ap (λ r. r stem) (sym gain.no_rotation) ∙ is) some in
    let g = gain.grown (generation_name stem count) w.0 w.1 in
    (w.0 ++ g.0, g.1)

pub gain_good : (rotation : Rotation) (parting : Parting) (old new : Logs) → AreGood rotation parting old → Gain rotation parting old new → AreGood rotation parting new
gain_good rotation parting old new good gain = record {
  parts = good.parts;
  shows = gain.shows;
  known = λ identity held is. ⊎_elim
      (λ none. absurd (none_some (new.written identity) held (gain.none_new identity none) is))
      (λ some. known_stays rotation parting old new identity gain.no_rotation (good.known identity some.0 some.1))
      (there_or_gone (old.written identity));
  newest = gain_newest rotation parting old new good gain;
}

past_file : (logs : Logs) (stem : List ℕ) (number : ℕ) → IsPast logs stem number → IsRotated logs (generation_name stem number) (generation_name stem number)
past_file logs stem number past = record { stem = stem; number = number; is_past = past; name_is = refl; identity_is = refl }

-- a state stands as before where logs gain bytes
pub gain_done : (rotation : Rotation) (parting : Parting) (old new : Logs) (entries : List Entry) → Gain rotation parting old new → IsDone rotation old entries → IsDone rotation new entries
gain_done names parting old new entries gain done = λ identity held is gone.
    let was = still_gone (old.folder identity) (new.folder identity) (gain.files identity) gone in
    done identity held (sym (gain.gone_stays identity identity (inl refl) was) ∙ is) was
gain_done numbers parting old new entries gain done = record {
  gone = λ stem number held past is gone.
      let before = past_before old new stem number gain.no_rotation past in
      let stays = gain.rotated_stays (generation_name stem number) (generation_name stem number) (past_file old stem number before) in
      done.gone stem number held before (sym stays.0 ∙ is) (sym stays.1 ∙ gone);
  passed = λ stem number later held past less knows is.
      let before = past_before old new stem number gain.no_rotation past in
      let stays = gain.rotated_stays (generation_name stem number) (generation_name stem number) (past_file old stem number before) in
      done.passed stem number later held before less knows (sym stays.0 ∙ is);
}

-- what a run under numbers read of a stem: it begins with the first generation, and a later one is among those that it read
record ReadsStem (old : Logs) (entries : List Entry) (files : List Listed) (stem : List ℕ) (later : ℕ) : Type 0 where
  first : ℕ
  is_first : IsFirst old.folder entries stem first
  newest : ℕ
  there : (number : ℕ) → first ≤ number → number ≤ newest → IsThereAt old.folder stem number
  low : first ≤ later
  high : later ≤ max (newest + 1) first
  listed : (number : ℕ) → first ≤ number → number ≤ newest → IsAmong (record { name = generation_name stem number; identity = generation_name stem number }) files

module _ (meaning : Meaning) (parting : Parting) (old new : Logs) (entries : List Entry) (good : AreGood numbers parting old) (gain : Gain numbers parting old new) (done : IsPassed old entries)
    (reached : List (List ℕ)) (are_stems : AllByRecursion (λ name. IsSome (old.rotations name)) reached) (files : List Listed) (spans : List Span) (lists : Lists numbers old.folder entries reached files) (read : AllZip (IsReadTo entries old.folder new.folder) files spans) where
  number_in : (live : Option (List ℕ)) (stem : List ℕ) (first newest : ℕ) (file : Listed) → IsAmong file (rotated_files stem first (newest + 1 - first) ++ live_files live stem (max (newest + 1) first)) → (number : ℕ) × (first ≤ number) × (number ≤ max (newest + 1) first) × (file.identity ≡ generation_name stem number)
  number_in live stem first newest file among = ⊎_elim
      (λ a. let r = rotated_number stem first (newest + 1 - first) file a in let low = r.1 in let high = r.2 in (r.0, low, omega arith, r.3))
      (λ b. (max (newest + 1) first, omega arith, omega arith, live_number live stem (max (newest + 1) first) file b))
      (among_cases file (rotated_files stem first (newest + 1 - first)) (live_files live stem (max (newest + 1) first)) among)

  reads_stem : (stem : List ℕ) (count later : ℕ) → old.rotations stem ≡ Some count → HasSpan (generation_name stem later) spans → ReadsStem old entries files stem later
  reads_stem stem count later is has =
      let f = listed_of entries old.folder new.folder files spans has.span read has.among in
      let st = stem_of old.folder entries reached lists.0 f.0 lists.1 (subst (IsAmong f.0) lists.2 f.1) in
      let l = st.2.1 in
      let number = number_in (old.folder st.0) st.0 l.first l.newest f.0 (subst (IsAmong f.0) l.listed_are st.2.2) in
      let other = some_value (old.rotations st.0) (all_among (λ name. IsSome (old.rotations name)) st.0 reached are_stems st.1) in
      let same = one_generation parting old stem st.0 later number.0 count other.0 good.parts good.shows.stems is other.1 (sym has.same ∙ (f.2.identity_is ∙ number.3)) in
      let low = number.1 in let high = number.2 in let at = same.1 in
      let here : ReadsStem old entries files st.0 later = record {
        first = l.first;
        is_first = l.is_first;
        newest = l.newest;
        there = l.there;
        low = omega arith;
        high = omega arith;
        listed = λ n a b. subst (IsAmong (record { name = generation_name st.0 n; identity = generation_name st.0 n })) (sym lists.2)
            (st.2.3 (record { name = generation_name st.0 n; identity = generation_name st.0 n }) (subst (IsAmong (record { name = generation_name st.0 n; identity = generation_name st.0 n })) (sym l.listed_are)
            (among_left (record { name = generation_name st.0 n; identity = generation_name st.0 n }) (rotated_files st.0 l.first (l.newest + 1 - l.first)) (live_files (old.folder st.0) st.0 (max (l.newest + 1) l.first)) (rotated_listed st.0 l.first (l.newest + 1 - l.first) n a (omega arith)))));
      } in
      subst (λ (s : List ℕ). ReadsStem old entries files s later) (sym same.0) here

  small : (stem : List ℕ) (number : ℕ) → IsPast old stem number → number < 2 ^ 63
  small stem number past = let s = good.shows.stems stem past.count past.rotated in let low = past.past in let high = s.1 in omega arith

  -- a generation before the first that a run reads was passed before
  before_first : (stem : List ℕ) (number first : ℕ) (held : List ℕ) → IsPast old stem number → old.written (generation_name stem number) ≡ Some held → number < first → IsFirst old.folder entries stem first → IsLastEnd held (kept_place (generation_name stem number) entries)
  before_first stem number first held past is less (inl greatest) = done.passed stem number first held past less greatest.known is
  before_first stem number first held past is less (inr (unknown, oldest)) = ⊎_elim
      (λ gone. let later = done.gone stem number held past is gone in absurd (unknown later.0 later.2))
      (λ there. absurd (let low = oldest.oldest number (past.some, small stem number past, is_some (old.folder (generation_name stem number)) there.0 there.1) in omega arith))
      (is_there_or_gone old (generation_name stem number))

  -- a rotated generation that a run reads is taken to its last line
  read_whole : (start : Files) (before : Files) (stem : List ℕ) (number : ℕ) (held : List ℕ) → IsSettled meaning new.written start entries before → IsPast old stem number → new.written (generation_name stem number) ≡ Some held → IsThereAt old.folder stem number
      → IsAmong (record { name = generation_name stem number; identity = generation_name stem number }) files → (span : Span) × IsAmong span spans × (span.identity ≡ generation_name stem number) × IsLastEnd held span.to
  read_whole start before stem number held settled past is there among =
      let name = generation_name stem number in
      let s = span_of entries old.folder new.folder files spans (record { name = generation_name stem number; identity = generation_name stem number }) read among in
      let r = s.2 in
      let bytes = some_bytes (old.folder name) there.2 in
      let stays = gain.rotated_stays name name (past_file old stem number past) in
      let written = file_written numbers parting old name name bytes.0 good.parts good.shows (past_is_log parting old stem number good.parts good.shows.stems past) (inr (past_file old stem number past)) bytes.1 in
      let h : Some bytes.0 ≡ Some held = sym written ∙ (sym stays.0 ∙ is) in
      let same : bytes.0 ≡ held = cc in
      let was : bytes_in old.folder name ≡ held = ap (λ (o : Option (List ℕ)). unwrap_or o []) bytes.1 ∙ same in
      let now : bytes_in new.folder name ≡ held = ap (λ (o : Option (List ℕ)). unwrap_or o []) stays.1 ∙ was in
      let least = r.least in let most = r.most in
      let a : length (bytes_in old.folder name) ≡ length held = ap length was in
      let b : length (bytes_in new.folder name) ≡ length held = ap length now in
      let cut : r.cut ≡ length held = omega arith in
      let whole : take r.cut (bytes_in new.folder name) ≡ held = ap (take r.cut) now ∙ (ap (λ n. take n held) cut ∙ take-length held) in
      let last : IsLastEnd held r.end = subst (λ (t : List ℕ). IsLastEnd t r.end) whole r.is_end in
      let kept = last.last (kept_place name entries) (kept_ends meaning new.written start entries before held name is settled) in
      let to = r.to_is in
      let at : r.end ≡ s.0.to = omega arith in
      (s.0, s.1, r.identity_is, subst (IsLastEnd held) at last)

  module _ (start : Files) (before : Files) (entry : Entry) (after : Files) (settled : IsSettled meaning new.written start entries before) (next : IsNext meaning new.written entries before entry after) (spans_are : entry.spans ≡ spans) where
    pub run_passed : IsPassed new (entries ++ entry ∷ [])
    run_passed = record {
      gone = λ stem number held past is gone.
          let b = past_before old new stem number gain.no_rotation past in
          let stays = gain.rotated_stays (generation_name stem number) (generation_name stem number) (past_file old stem number b) in
          let later = done.gone stem number held b (sym stays.0 ∙ is) (sym stays.1 ∙ gone) in
          (later.0, later.1, knows_push entries entry stem later.0 later.2);
      passed = λ stem number later held past less knows is.
          let b = past_before old new stem number gain.no_rotation past in
          let name = generation_name stem number in
          let stays = gain.rotated_stays name name (past_file old stem number b) in
          let was : old.written name ≡ Some held = sym stays.0 ∙ is in
          let on : IsLastEnd held (kept_place name entries) → IsLastEnd held (kept_place name (entries ++ entry ∷ [])) = λ last. full_stays meaning new.written entries before entry after name held next is last in
          ⊎_elim
          (λ known. on (done.passed stem number later held b less known was))
          (λ has.
          let r = reads_stem stem b.count later b.rotated (record { span = has.span; among = subst (IsAmong has.span) spans_are has.among; same = has.same }) in
          elim (cases_lt number r.first) [
            | inl earlier ↦ on (before_first stem number r.first held b was earlier r.is_first)
            | inr within ↦
                let high = r.high in
                let newest : number ≤ r.newest = omega arith in
                let w = read_whole start before stem number held settled b is (r.there number within newest) (r.listed number within newest) in
                taken_last meaning new start (entries ++ entry ∷ []) after name held (settled_push meaning new.written start entries before entry after settled next) is
                (record { span = w.0; among = subst (IsAmong w.0) (sym (spans_of-push entries entry)) (among_right w.0 (spans_of entries) entry.spans (subst (IsAmong w.0) (sym spans_are) w.1)); same = w.2; last = w.3 })
          ])
          (knows_cases entries entry stem later knows);
    }

-- with an entry more all is done as before
pub run_done : (rotation : Rotation) (meaning : Meaning) (parting : Parting) (old new : Logs) (start : Files) (entries : List Entry) (files : Files) (entry : Entry) (after : Files) (reached : List (List ℕ)) → AreGood rotation parting old → Gain rotation parting old new → IsDone rotation old entries → IsSettled meaning new.written start entries files → IsNext meaning new.written entries files entry after
    → AreListed rotation entries reached old.folder new.folder entry.spans → (rotation ≡ numbers → AllByRecursion (λ name. IsSome (old.rotations name)) reached) → IsDone rotation new (entries ++ entry ∷ [])
run_done names meaning parting old new start entries files entry after reached good gain done settled next listed stems = λ identity held is gone.
    full_stays meaning new.written entries files entry after identity held next is (gain_done names parting old new entries gain done identity held is gone)
run_done numbers meaning parting old new start entries files entry after reached good gain done settled next listed stems =
    run_passed meaning parting old new entries good gain done reached (stems refl) listed.files entry.spans listed.lists listed.read start files entry after settled next refl
