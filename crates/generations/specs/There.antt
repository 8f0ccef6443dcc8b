-- Which rotated files of a stem are there.
use Rattle.std.specs.Prelude.{◌≡◌, ℕ, ◌↔◌, true, List, [], ◌∷◌, ◌++◌, Some}
use Rattle.std.specs.Bool.{⊤}
use Rattle.std.specs.BTreeSet.{BTreeSet, contains}
use Rattle.std.specs.Ordering.{nat_cmp}
use Rattle.lp_model.specs.Outside.{Folder}
use Rattle.lp_outside.specs.NameFault.{name_fault}
use Rattle.run_model.specs.Listed.{IsThereAt}
use Rattle.generations.specs.Numbers.{HasName}
use Rattle.generations.specs.declared.there.ThereFault.{ThereFault}
use Rattle.generations.specs.declared.there.ThereFault.TheVariants as F

-- a set has just the numbers of the generations with these names
abbrev pub AreNumbers : List ℕ → List (List ℕ) → BTreeSet ℕ → Type 0
AreNumbers front names numbers = (number : ℕ) → (contains nat_cmp numbers number ≡ true) ↔ HasName front names number

-- a set takes the number of a name more
abbrev pub AddsName : List ℕ → List ℕ → BTreeSet ℕ → BTreeSet ℕ → Type 0
AddsName front name old new = (names : List (List ℕ)) → AreNumbers front names old → AreNumbers front (names ++ name ∷ []) new

-- a set has just the numbers of a stem's rotated files that are there
abbrev pub AreThere : Folder → List ℕ → BTreeSet ℕ → Type 0
AreThere folder stem numbers = (number : ℕ) → (contains nat_cmp numbers number ≡ true) ↔ IsThereAt folder stem number

-- why the files can't be listed: with `.*` behind it the stem is no name
abbrev pub IsUnlisted : List ℕ → ThereFault → Type 0
IsUnlisted stem (F.BadName fault) = name_fault (stem ++ 46 ∷ 42 ∷ []) ≡ Some fault
IsUnlisted stem F.Logs = ⊤
IsUnlisted stem F.Memory = ⊤
