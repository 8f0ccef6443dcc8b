-- The files that a rule lists are those of their logs.
use Rattle.std.proofs.Common.{◌≡◌, ℕ, ◌+◌, true, Bool, List, [], ◌∷◌, ◌++◌, filter, not, Option, Some, None, inl, inr, refl, sym, ◌∙◌, ap, subst}
use Rattle.std.specs.Prelude.{max, bytes_eq, IsSome, IsSomeAnd, Contains, MatchOption}
use Rattle.std.specs.List.{AllByRecursion, AllZip}
use Rattle.std.proofs.lemmas.Bool.{cases_Bool, false≢true}
use Rattle.std.proofs.lemmas.List.Elements.{All-contains_itself, All-weaker, recursion_from_All}
use Rattle.ledger_model.specs.Entries.{Entry}
use Rattle.log_listing.specs.Firsts.{firsts}
use Rattle.log_listing.specs.Firsts.{joined as joined_names}
use Rattle.log_listing.specs.Listed.{Gives}
use Rattle.lp_model.specs.Outside.{Folder, Grows, Begins}
use Rattle.positions.specs.Spanning.{Reaches}
use Rattle.run_model.specs.Listed.{Listed, Lists, ListsStem}
use Rattle.run_model.specs.Logs.{Rotation, names, numbers, Logs, Parting, PartsNames, Shows}
use Rattle.checkpointed_run.proofs.Shown.{IsFound, found_by_names, found_of_stem, found_by_numbers}

all_append : {X : Type 0} (P : X → Type 0) (xs ys : List X) → AllByRecursion P xs → AllByRecursion P ys → AllByRecursion P (xs ++ ys)
all_append P [] ys a b = b
all_append P (x ∷ xs) ys (p, a) b = (p, all_append P xs ys a b)

all_filter : (P : List ℕ → Type 0) (test : List ℕ → Bool) (xs : List (List ℕ)) → AllByRecursion P xs → AllByRecursion P (filter test xs)
all_filter P test [] all = tt
all_filter P test (x ∷ xs) (p, all) = elim (cases_Bool (test x)) [
  | inl e ↦ let both : AllByRecursion P (x ∷ filter test xs) = (p, all_filter P test xs all) in rw e both
  | inr e ↦ rw e (all_filter P test xs all)
]

all_firsts : (P : List ℕ → Type 0) (xs : List (List ℕ)) → AllByRecursion P xs → AllByRecursion P (firsts xs)
all_firsts P [] all = tt
all_firsts P (x ∷ xs) (p, all) = (p, all_filter P (λ other. not (bytes_eq other x)) (firsts xs) (all_firsts P xs all))

-- names that match are those of files
abbrev HasFile : Folder → List ℕ → Type 0
HasFile folder name = IsSome (folder name)

given_there : (folder : Folder) (texts : List (List ℕ)) (found : List (List (List ℕ))) → AllZip (Gives (Some folder)) texts found → AllByRecursion (HasFile folder) (joined_names found)
given_there folder [] [] gives = tt
given_there folder [] (f ∷ found) gives = absurd gives
given_there folder (t ∷ texts) [] gives = absurd gives
given_there folder (t ∷ texts) (f ∷ found) (is, gives) =
    all_append (HasFile folder) f (joined_names found)
    (recursion_from_All (HasFile folder) f (All-weaker (Contains f) (HasFile folder) (λ name has. ((is.matches.each name).0 has).0) f (All-contains_itself f)))
    (given_there folder texts found gives)

all_with : {X : Type 0} (P Q : X → Type 0) → ((x : X) → P x → Q x) → (xs : List X) → AllByRecursion P xs → AllByRecursion Q xs
all_with P Q to [] all = tt
all_with P Q to (x ∷ xs) (p, all) = (to x p, all_with P Q to xs all)

still_there : (a b : Folder) → Grows a b → (name : List ℕ) → IsSome (a name) → IsSome (b name)
still_there a b grows name = by (a name) (b name) (grows name)
  where
    by : (x y : Option (List ℕ)) → MatchOption x (y ≡ None) (λ old. IsSomeAnd y (λ new. Begins old new)) → IsSome x → IsSome y
    by None y g is = absurd (false≢true is)
    by (Some old) None g is = absurd g
    by (Some old) (Some new) g is = refl

-- of what a run lists in a folder each file is the one of its log, and is there when the folder has grown
pub all_found : (rotation : Rotation) (parting : Parting) (before after : Logs) (entries : List Entry) (texts reached : List (List ℕ)) (files : List Listed) → PartsNames rotation parting → Shows rotation parting after → Grows before.folder after.folder → after.rotations ≡ before.rotations
    → Reaches rotation (Some before.folder) texts reached → Lists rotation before.folder entries reached files → AllByRecursion (λ (name : List ℕ). parting.is_log name ≡ true) reached
    → (rotation ≡ numbers → AllByRecursion (λ (name : List ℕ). IsSome (before.rotations name)) reached)
    → (rotation ≡ numbers → (stem : List ℕ) (count : ℕ) (listed : List Listed) → before.rotations stem ≡ Some count → (l : ListsStem before.folder entries stem listed) → max (l.newest + 1) l.first ≡ count + 1)
    → AllByRecursion (IsFound rotation parting after) files
all_found names parting before after entries texts reached files parts shows grows same reaches lists are_logs stems live =
    let there = all_with (HasFile before.folder) (HasFile after.folder) (still_there before.folder after.folder grows) reached (subst (AllByRecursion (HasFile before.folder)) (sym reaches.all) (all_firsts (HasFile before.folder) (joined_names reaches.found) (given_there before.folder texts reaches.found reaches.each))) in
    subst (AllByRecursion (IsFound names parting after)) (sym lists) (found_by_names parting after reached are_logs there)
all_found numbers parting before after entries texts reached files parts shows grows same reaches lists are_logs stems live =
    let each_stem = all_with (λ (name : List ℕ). IsSome (before.rotations name)) (λ (name : List ℕ). IsSome (after.rotations name)) (λ name is. subst (λ (r : List ℕ → Option ℕ). IsSome (r name)) (sym same) is) reached (stems refl) in
    subst (AllByRecursion (IsFound numbers parting after)) (sym lists.2)
    (found_by_numbers parting before.folder after entries reached lists.0 lists.1 each_stem
    (λ stem count listed is l. found_of_stem parting before.folder after parts shows.stems (still_there before.folder after.folder grows) stem count is entries listed l (live refl stem count listed (ap (λ (r : List ℕ → Option ℕ). r stem) (sym same) ∙ is) l)))
