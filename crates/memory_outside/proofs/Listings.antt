-- The names of the files that a pattern matches, one file after the other.
use Rattle.std.proofs.Common.{◌≡◌, ◌≢◌, ◌⊎◌, inl, inr, ⊎_elim, ◌↔◌, ℕ, Bool, true, false, cond, List, [], ◌∷◌, ◌++◌, Option, Some, IsSome, IsTrue, Contains, bytes_eq, refl, sym, ◌∙◌, ap, subst}
use Rattle.std.proofs.lemmas.Bool.{cases_Bool, true≢false}
use Rattle.std.proofs.lemmas.Slice.Eq.{bytes_eq-Decides}
use Rattle.std.proofs.lemmas.Map.Text.{is_eq-slice_cmp}
use Rattle.std.specs.Ordering.{nat_cmp, is_eq}
use Rattle.std.specs.Cmp.Lexicographic.{slice_cmp, nat_list_cmp_total}
use Rattle.std.specs.BTreeSet.{BTreeSet, contains, IsOrdered}
use Rattle.std.specs.List.Sorted.{IsStrictlySortedBy}
use Rattle.std.proofs.lemmas.Map.Views.{btree_set_contains_iff}
use Rattle.std.proofs.lemmas.Map.Lookups.{exact_bytes}
use Rattle.lp_outside.specs.Matching.{Matches, AreMatches}
use Rattle.memory_outside.specs.Files.{folder_of}
use Rattle.memory_outside.specs.declared.files.MemoryFile.{MemoryFile}

-- the set has the names of those files that match
abbrev pub HasMatches : BTreeSet (List ℕ) → List MemoryFile → List ℕ → Type 0
HasMatches found files pattern = (name : List ℕ) → IsTrue (contains (slice_cmp nat_cmp) found name) ↔ (IsSome (folder_of files name) × Matches pattern name)

-- and in order
pub record Holds (found : BTreeSet (List ℕ)) (files : List MemoryFile) (pattern : List ℕ) : Type 0 where
  pub has : HasMatches found files pattern
  pub ordered : IsOrdered (slice_cmp nat_cmp) found

-- a file more
came : (files : List MemoryFile) (file : MemoryFile) (name : List ℕ) → file.name ≡ name → IsSome (folder_of (files ++ file ∷ []) name)
came [] file name is = let e = (bytes_eq-Decides file.name name).1 is in rw e refl
came (f ∷ files) file name is = elim (cases_Bool (bytes_eq f.name name)) [
  | inl e ↦ rw e refl
  | inr e ↦ rw e (came files file name is)
]

other : (files : List MemoryFile) (file : MemoryFile) (name : List ℕ) → file.name ≢ name → folder_of (files ++ file ∷ []) name ≡ folder_of files name
other [] file name off = elim (cases_Bool (bytes_eq file.name name)) [
  | inl e ↦ absurd (off ((bytes_eq-Decides file.name name).0 e))
  | inr e ↦ rw e refl
]
other (f ∷ files) file name off = ap (λ t. cond (bytes_eq f.name name) (Some f.bytes) t) (other files file name off)

same_or_not : (a b : List ℕ) → (a ≡ b) ⊎ (a ≢ b)
same_or_not a b = elim (cases_Bool (bytes_eq a b)) [
  | inl e ↦ inl ((bytes_eq-Decides a b).0 e)
  | inr e ↦ inr (λ is. true≢false (sym ((bytes_eq-Decides a b).1 is) ∙ e))
]

pub match_left_out : (found : BTreeSet (List ℕ)) (files : List MemoryFile) (file : MemoryFile) (pattern : List ℕ) → (Matches pattern file.name → ⊥) → HasMatches found files pattern → HasMatches found (files ++ file ∷ []) pattern
match_left_out found files file pattern off has name = ⊎_elim
    (λ is. (λ h. absurd (off (subst (Matches pattern) (sym is) ((has name).0 h).1)), λ m. absurd (off (subst (Matches pattern) (sym is) m.1))))
    (λ isnt. subst (λ (o : Option (List ℕ)). IsTrue (contains (slice_cmp nat_cmp) found name) ↔ (IsSome o × Matches pattern name)) (sym (other files file name isnt)) (has name))
    (same_or_not file.name name)

pub match_added : (found new : BTreeSet (List ℕ)) (files : List MemoryFile) (file : MemoryFile) (key pattern : List ℕ) → key ≡ file.name
    → ((q : List ℕ) → contains (slice_cmp nat_cmp) new q ≡ cond (is_eq (slice_cmp nat_cmp key q)) true (contains (slice_cmp nat_cmp) found q)) → Matches pattern file.name → HasMatches found files pattern → HasMatches new (files ++ file ∷ []) pattern
match_added found new files file key pattern named updates matches has name = ⊎_elim
    (λ is.
    let here : contains (slice_cmp nat_cmp) new name ≡ true = updates name ∙ ap (λ b. cond b true (contains (slice_cmp nat_cmp) found name)) (is_eq-slice_cmp key name ∙ (bytes_eq-Decides key name).1 (named ∙ is)) in
    (λ h. (came files file name is, subst (Matches pattern) is matches), λ m. here))
    (λ isnt.
    let apart : bytes_eq key name ≡ false = not_same key name (λ e. isnt (sym named ∙ e)) in
    let there : contains (slice_cmp nat_cmp) new name ≡ contains (slice_cmp nat_cmp) found name = updates name ∙ ap (λ b. cond b true (contains (slice_cmp nat_cmp) found name)) (is_eq-slice_cmp key name ∙ apart) in
    subst (λ (b : Bool). IsTrue b ↔ (IsSome (folder_of (files ++ file ∷ []) name) × Matches pattern name)) (sym there)
    (subst (λ (o : Option (List ℕ)). IsTrue (contains (slice_cmp nat_cmp) found name) ↔ (IsSome o × Matches pattern name)) (sym (other files file name isnt)) (has name)))
    (same_or_not file.name name)
  where
    not_same : (a b : List ℕ) → a ≢ b → bytes_eq a b ≡ false
    not_same a b off = elim (cases_Bool (bytes_eq a b)) [
      | inl e ↦ absurd (off ((bytes_eq-Decides a b).0 e))
      | inr e ↦ e
    ]

pub are_matches : (found : BTreeSet (List ℕ)) (files : List MemoryFile) (pattern : List ℕ) (names : List (List ℕ)) → names ≡ found.keys → IsOrdered (slice_cmp nat_cmp) found → HasMatches found files pattern → AreMatches (folder_of files) pattern names
are_matches found files pattern names same ordered has = record {
  ordered = subst (λ (ns : List (List ℕ)). IsStrictlySortedBy (slice_cmp nat_cmp) ns) (sym same) ordered;
  each = λ name. let there = btree_set_contains_iff nat_list_cmp_total exact_bytes found name in
      (λ h. (has name).0 (there.1 (subst (λ (ns : List (List ℕ)). Contains ns name) same h)), λ m. subst (λ (ns : List (List ℕ)). Contains ns name) (sym same) (there.0 ((has name).1 m)));
}
