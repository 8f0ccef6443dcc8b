-- The range of a stem's rotated files.
use Rattle.std.specs.Prelude.{◌≡◌, ◌⊎◌, ℕ, ◌<◌, ◌≤◌, true}
use Rattle.std.specs.BTreeSet.{BTreeSet, contains}
use Rattle.std.specs.Ordering.{nat_cmp}

abbrev pub Has : BTreeSet ℕ → ℕ → Type 0
Has numbers number = contains nat_cmp numbers number ≡ true

-- the greatest of some numbers, or 0 where there is none
pub record IsLast (numbers : BTreeSet ℕ) (number : ℕ) : Type 0 where
  pub there : 1 ≤ number → Has numbers number
  pub last : (other : ℕ) → Has numbers other → other ≤ number

-- the least, or 1
pub record IsLeast (numbers : BTreeSet ℕ) (number : ℕ) : Type 0 where
  pub there : (((other : ℕ) → Has numbers other → ⊥) × (number ≡ 1)) ⊎ Has numbers number
  pub least : (other : ℕ) → Has numbers other → number ≤ other

-- all from one up to another are among them
abbrev pub HasAll : BTreeSet ℕ → ℕ → ℕ → Type 0
HasAll numbers first last = (number : ℕ) → first ≤ number → number ≤ last → Has numbers number
