-- Places that are put.
use Rattle.std.proofs.Common.{◌≡◌, ℕ, List, Bool, true, false, cond, Option, Some, None, bytes_eq, refl, sym, ◌∙◌, ap, subst}
use Rattle.std.specs.Prelude.{if◌then◌else◌, is_some, IsSome}
use Rattle.std.specs.BTreeMap.{is_at}
use Rattle.std.specs.Map.{lookup}
use Rattle.std.specs.Ordering.{nat_cmp, is_eq}
use Rattle.std.specs.Cmp.Lexicographic.{slice_cmp}
use Rattle.std.proofs.lemmas.Map.Text.{is_eq-slice_cmp}
use Rattle.std.proofs.lemmas.Slice.Eq.{bytes_eq-Decides}
use Rattle.positions.specs.declared.place.Place.{Place}
use Rattle.positions.specs.Places.{Places, joined, place_in, Puts}
use Rattle.positions.specs.Advances.{AreSame, KeepsRoom}

-- what is found of a log
abbrev pub found_in : Places → List ℕ → Option (Option Place)
found_in places identity = lookup (is_at (slice_cmp nat_cmp identity)) places

-- a map with a value more
abbrev pub Updated : List ℕ → Option Place → Places → Places → Type 0
Updated key value old new = (q : List ℕ) → found_in new q ≡ cond (is_at (slice_cmp nat_cmp key) q) (Some value) (found_in old q)

joined_cond : (b : Bool) (place : Place) (had : Option (Option Place)) → joined (cond b (Some (Some place)) had) ≡ (if b then Some place else joined had)
joined_cond true place had = refl
joined_cond false place had = refl

pub puts : (key identity : List ℕ) (place : Place) (old new : Places) → key ≡ identity → Updated key (Some place) old new → Puts identity place old new
puts key identity place old new same updates = λ other.
    ap joined (updates other) ∙ joined_cond (is_eq (slice_cmp nat_cmp key other)) place (found_in old other)
    ∙ ap (λ (b : Bool). if b then Some place else place_in old other) (is_eq-slice_cmp key other ∙ ap (λ (k : List ℕ). bytes_eq k other) same)

-- nothing is put where a log had no place
aside_at : (b : Bool) (had : Option (Option Place)) → (b ≡ true → had ≡ None) → joined (cond b (Some None) had) ≡ joined had
aside_at true had none = sym (ap joined (none refl))
aside_at false had none = refl

none_here : (key other : List ℕ) (old : Places) → found_in old key ≡ None → is_eq (slice_cmp nat_cmp key other) ≡ true → found_in old other ≡ None
none_here key other old none is = subst (λ (q : List ℕ). found_in old q ≡ None) ((bytes_eq-Decides key other).0 (sym (is_eq-slice_cmp key other) ∙ is)) none

pub same_aside : (key : List ℕ) (old new : Places) → found_in old key ≡ None → Updated key None old new → AreSame old new
same_aside key old new none updates = λ other. ap joined (updates other) ∙ aside_at (is_eq (slice_cmp nat_cmp key other)) (found_in old other) (none_here key other old none)

some_at : (b : Bool) (value : Option Place) (had : Option (Option Place)) → IsSome had → IsSome (cond b (Some value) had)
some_at true value had is = refl
some_at false value had is = is

pub keeps_room : (key : List ℕ) (value : Option Place) (old new : Places) → Updated key value old new → KeepsRoom old new
keeps_room key value old new updates = λ other has. subst (λ (o : Option (Option Place)). IsSome o) (sym (updates other)) (some_at (is_eq (slice_cmp nat_cmp key other)) value (found_in old other) has)

pub none_from : (o : Option (Option Place)) (b : Bool) → b ≡ is_some o → b ≡ false → o ≡ None
none_from None b is off = refl
none_from (Some x) b is off = absurd (cc)
