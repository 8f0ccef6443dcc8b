-- The files that a run lists hold all that was written to their logs.
use Rattle.std.proofs.Common.{◌≡◌, ℕ, zero, suc, ◌+◌, ◌<◌, ◌≤◌, true, List, [], ◌∷◌, ◌++◌, map, Option, Some, None, refl, sym, ◌∙◌, ap, subst, arith, inl, inr}
use Rattle.std.specs.Prelude.{◌-◌, max, IsSome}
use Rattle.std.proofs.lemmas.Bool.{false≢true}
use Rattle.std.specs.List.{AllByRecursion, AllZip}
use Rattle.log_reading.specs.declared.span.Span.{Span}
use Rattle.lp_model.specs.Outside.{Folder}
use Rattle.ledger_model.specs.Entries.{Entry}
use Rattle.run_model.specs.Listed.{Listed, IsThereAt, ListsStem, rotated_files, live_files, joined}
use Rattle.run_model.specs.Logs.{Rotation, names, numbers, Logs, Parting, PartsNames, IsFileOf, IsParting, IsPast, Shows, ShowsStems, generation_name}
use Rattle.positions.specs.Places.{Places}
use Rattle.positions.specs.Spans.{IsSpanOf}
use Rattle.worlds.proofs.Naming.{file_written, past_is_log, stem_known}
use Rattle.checkpointed_run.proofs.Spanned.{IsShown}

-- a file that is listed is the one of its log, and is there
pub record IsFound (rotation : Rotation) (parting : Parting) (logs : Logs) (file : Listed) : Type 0 where
  pub is_file : IsFileOf rotation logs file.name file.identity
  pub is_log : parting.is_log file.name ≡ true
  pub there : IsSome (logs.folder file.name)

some_of : {X : Type 0} (o : Option X) → IsSome o → (x : X) × (o ≡ Some x)
some_of None is = absurd (false≢true is)
some_of (Some x) is = (x, refl)

module _ (rotation : Rotation) (parting : Parting) (logs : Logs) (parts : PartsNames rotation parting) (shows : Shows rotation parting logs) where
  one_shown : (places : Places) (before now : Option Folder) (file : Listed) (span : Span) → IsFound rotation parting logs file → IsSpanOf places before now file span → IsShown logs.written logs.folder span
  one_shown places before now file span found is =
      let some = some_of (logs.folder file.name) found.there in
      let wrote : logs.written file.identity ≡ Some some.0 = file_written rotation parting logs file.name file.identity some.0 parts shows found.is_log found.is_file some.1 in
      record { bytes = some.0; wrote = ap logs.written is.identity_is ∙ wrote; there = ap logs.folder is.name_is ∙ some.1 }

  pub all_shown : (places : Places) (before now : Option Folder) (files : List Listed) (spans : List Span) → AllByRecursion (IsFound rotation parting logs) files → AllZip (IsSpanOf places before now) files spans → AllByRecursion (IsShown logs.written logs.folder) spans
  all_shown places before now [] [] found are = tt
  all_shown places before now [] (s ∷ ss) found are = absurd are
  all_shown places before now (f ∷ fs) [] found are = absurd are
  all_shown places before now (f ∷ fs) (s ∷ ss) (here, found) (is, are) = (one_shown places before now f s here is, all_shown places before now fs ss found are)

-- under names each file is its own log
pub found_by_names : (parting : Parting) (logs : Logs) (reached : List (List ℕ)) → AllByRecursion (λ (name : List ℕ). parting.is_log name ≡ true) reached → AllByRecursion (λ (name : List ℕ). IsSome (logs.folder name)) reached
    → AllByRecursion (IsFound names parting logs) (map (λ (name : List ℕ). record { name = name; identity = name }) reached)
found_by_names parting logs [] are there = tt
found_by_names parting logs (name ∷ reached) (is, are) (here, there) = (record { is_file = inl refl; is_log = is; there = here }, found_by_names parting logs reached are there)

all_append : {X : Type 0} (P : X → Type 0) (xs ys : List X) → AllByRecursion P xs → AllByRecursion P ys → AllByRecursion P (xs ++ ys)
all_append P [] ys a b = b
all_append P (x ∷ xs) ys (p, a) b = (p, all_append P xs ys a b)

-- under numbers the rotated files of a stem are generations that are past, and its own file is the one behind them
module _ (parting : Parting) (before : Folder) (logs : Logs) (parts : IsParting parting) (stems : ShowsStems numbers parting logs) (stays : (name : List ℕ) → IsSome (before name) → IsSome (logs.folder name)) (stem : List ℕ) (count : ℕ) (rotated : logs.rotations stem ≡ Some count) where
  one_past : (number : ℕ) → IsThereAt before stem number → number ≤ count → IsFound numbers parting logs (record { name = generation_name stem number; identity = generation_name stem number })
  one_past number there le =
      let past : IsPast logs stem number = record { count = count; rotated = rotated; some = there.0; past = le } in
      record {
        is_file = inr (record { stem = stem; number = number; is_past = past; name_is = refl; identity_is = refl });
        is_log = past_is_log parting logs stem number parts stems past;
        there = stays (generation_name stem number) there.2;
      }

  all_past : (number many : ℕ) → ((other : ℕ) → number ≤ other → other < number + many → IsThereAt before stem other) → number + many ≤ count + 1 → AllByRecursion (IsFound numbers parting logs) (rotated_files stem number many)
  all_past number zero there le = tt
  all_past number (suc many) there le = (
    one_past number (there number (omega arith) (omega arith)) (omega (arith, le)),
    all_past (number + 1) many (λ other low high. there other (omega arith) (omega arith)) (omega (arith, le)),
  )

  live_found : (held : Option (List ℕ)) (number : ℕ) → number ≡ count + 1 → AllByRecursion (IsFound numbers parting logs) (live_files held stem number)
  live_found None number is = tt
  live_found (Some bytes) number is =
      let shown = stems stem count rotated in (
        record {
          is_file = inl (count, rotated, ap (generation_name stem) is);
          is_log = parts.stem_is_log stem (stem_known parting logs stem count stems rotated);
          there = subst (λ (o : Option (List ℕ)). IsSome o) (sym shown.2.1) refl;
        },
        tt,
      )

  pub found_of_stem : (entries : List Entry) (listed : List Listed) → (l : ListsStem before entries stem listed) → max (l.newest + 1) l.first ≡ count + 1 → AllByRecursion (IsFound numbers parting logs) listed
  found_of_stem entries listed l is =
      let many : ℕ = l.newest + 1 - l.first in
      let range : l.newest + 1 ≤ count + 1 = omega (arith, is) in
      subst (AllByRecursion (IsFound numbers parting logs)) (sym l.listed_are)
      (all_append (IsFound numbers parting logs) (rotated_files stem l.first many) (live_files (before stem) stem (max (l.newest + 1) l.first))
      (past_or_none l range many refl)
      (live_found (before stem) (max (l.newest + 1) l.first) is))
    where
      past_or_none : (l : ListsStem before entries stem listed) → l.newest + 1 ≤ count + 1 → (many : ℕ) → many ≡ l.newest + 1 - l.first → AllByRecursion (IsFound numbers parting logs) (rotated_files stem l.first many)
      past_or_none l range zero size = tt
      past_or_none l range (suc many) size = all_past l.first (suc many) (λ other low high. l.there other low (omega (arith, size))) (omega (arith, size, range))

-- under numbers the files of stems
pub found_by_numbers : (parting : Parting) (before : Folder) (logs : Logs) (entries : List Entry) (reached : List (List ℕ)) (each : List (List Listed)) → AllZip (ListsStem before entries) reached each
    → AllByRecursion (λ (stem : List ℕ). IsSome (logs.rotations stem)) reached
    → ((stem : List ℕ) (count : ℕ) (listed : List Listed) → logs.rotations stem ≡ Some count → ListsStem before entries stem listed → AllByRecursion (IsFound numbers parting logs) listed) → AllByRecursion (IsFound numbers parting logs) (joined each)
found_by_numbers parting before logs entries [] [] lists stems found = tt
found_by_numbers parting before logs entries [] (l ∷ each) lists stems found = absurd lists
found_by_numbers parting before logs entries (stem ∷ reached) [] lists stems found = absurd lists
found_by_numbers parting before logs entries (stem ∷ reached) (l ∷ each) (is, lists) (one, stems) found =
    let count = some_number (logs.rotations stem) one in
    all_append (IsFound numbers parting logs) l (joined each) (found stem count.0 l count.1 is) (found_by_numbers parting before logs entries reached each lists stems found)
  where
    some_number : (o : Option ℕ) → IsSome o → (n : ℕ) × (o ≡ Some n)
    some_number None is = absurd (false≢true is)
    some_number (Some n) is = (n, refl)
