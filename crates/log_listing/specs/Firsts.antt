-- Names that come again.
use Rattle.std.specs.Prelude.{◌≡◌, ℕ, Bool, not, List, [], ◌∷◌, ◌++◌, filter, fold, bytes_eq, if◌then◌else◌}
use Rattle.std.specs.List.{list_any}
use Rattle.std.specs.BTreeSet.{BTreeSet, contains}
use Rattle.std.specs.Cmp.Lexicographic.{slice_cmp}
use Rattle.std.specs.Ordering.{nat_cmp}

-- whether a name stands among others
abbrev pub is_among : List (List ℕ) → List ℕ → Bool
is_among names name = list_any (bytes_eq name) names

-- each name at its first place
abbrev pub firsts : List (List ℕ) → List (List ℕ)
firsts [] = []
firsts (name ∷ names) = name ∷ filter (λ other. not (bytes_eq other name)) (firsts names)

-- names with one more behind them, unless it stands among them
abbrev pub with_name : List (List ℕ) → List ℕ → List (List ℕ)
with_name names name = if is_among names name then names else names ++ name ∷ []

abbrev pub with_names : List (List ℕ) → List (List ℕ) → List (List ℕ)
with_names names more = fold with_name names more

-- a set has just these names
abbrev pub Knows : BTreeSet (List ℕ) → List (List ℕ) → Type 0
Knows seen names = (name : List ℕ) → contains (slice_cmp nat_cmp) seen name ≡ is_among names name

-- lists one behind the other
abbrev pub joined : List (List (List ℕ)) → List (List ℕ)
joined [] = []
joined (names ∷ more) = names ++ joined more
