-- A text cut at the occurrences of a part. An occurrence is one of bytes; in a text that is UTF-8, of a part that is
-- UTF-8, it begins and ends where characters do, so it is an occurrence of the part's characters.
use Rattle.std.specs.Prelude.{◌≡◌, ◌≢◌, ℕ, zero, suc, ◌-◌, ◌≤◌, nat_eq, List, [], ◌∷◌, ◌++◌, length, if◌then◌else◌}
use Rattle.std.specs.List.{starts_with, onto_first}

-- the pieces of a text of which the first `left` bytes belong to an occurrence
unfoldable pub pieces_behind : List ℕ → List ℕ → ℕ → List (List ℕ)
pieces_behind part [] left = [] ∷ []
pieces_behind part (b ∷ bs) zero =
    if starts_with nat_eq (b ∷ bs) part then [] ∷ pieces_behind part bs (length part - 1)
    else onto_first b (pieces_behind part bs zero)
pieces_behind part (b ∷ bs) (suc left) = pieces_behind part bs left

-- the pieces before, between and behind the occurrences of a part, which are found from the left and don't overlap
abbrev pub pieces : List ℕ → List ℕ → List (List ℕ)
pieces part text = pieces_behind part text 0

-- pieces with a text between each two
unfoldable pub joined : List ℕ → List (List ℕ) → List ℕ
joined between [] = []
joined between (piece ∷ []) = piece
joined between (piece ∷ next ∷ more) = piece ++ (between ++ joined between (next ∷ more))

-- a part that occurs nowhere in a text
abbrev pub Lacks : List ℕ → List ℕ → Type 0
Lacks part text = (front rest : List ℕ) → text ≢ front ++ (part ++ rest)

-- what stands before the first occurrence of a part, and what stands behind it
pub record IsCutAtFirst (part text before behind : List ℕ) : Type 0 where
  pub whole : text ≡ before ++ (part ++ behind)
  pub first : (front rest : List ℕ) → text ≡ front ++ (part ++ rest) → length before ≤ length front

-- what stands before the last occurrence of a part, and what stands behind it
pub record IsCutAtLast (part text before behind : List ℕ) : Type 0 where
  pub whole : text ≡ before ++ (part ++ behind)
  pub last : (front rest : List ℕ) → text ≡ front ++ (part ++ rest) → length behind ≤ length rest

-- pieces that are a text's: each but the last stands before the first occurrence in what is left, and the last has none
unfoldable pub IsPartedInto : List ℕ → List ℕ → List (List ℕ) → Type 0
IsPartedInto part text [] = ⊥
IsPartedInto part text (piece ∷ []) = (text ≡ piece) × Lacks part text
IsPartedInto part text (piece ∷ next ∷ more) = (behind : List ℕ) × IsCutAtFirst part text piece behind × IsPartedInto part behind (next ∷ more)
