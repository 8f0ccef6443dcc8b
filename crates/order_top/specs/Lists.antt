-- First occurrences, the order that keeps ties in their places, and the first items.
use Rattle.std.specs.Prelude.{ℕ, Bool, not, List, [], ◌∷◌, Option, Some, None, take, if◌then◌else◌}
use Rattle.std.specs.List.{filter}
use Rattle.std.specs.List.Sorted.{IsSortedBy, IsStableBy}

module _ {X : Type 0} where
  -- the first item, and the first occurrences of the later ones that differ from it
  abbrev pub first_occurrences : (X → X → Bool) → List X → List X
  first_occurrences same [] = []
  first_occurrences same (x ∷ xs) = x ∷ filter (λ y. not (same x y)) (first_occurrences same xs)

  -- items in order with an earlier one: it goes in front of the first that doesn't precede it
  abbrev pub with_earlier : (X → X → Bool) → X → List X → List X
  with_earlier precedes x [] = x ∷ []
  with_earlier precedes x (y ∷ ys) = if precedes y x then y ∷ with_earlier precedes x ys else x ∷ y ∷ ys

  -- the items in order, ties in their earlier order
  abbrev pub ordered : (X → X → Bool) → List X → List X
  ordered precedes [] = []
  ordered precedes (x ∷ xs) = with_earlier precedes x (ordered precedes xs)

  -- items in order with a later one: it goes in front of the first that it precedes
  abbrev pub with_later : (X → X → Bool) → X → List X → List X
  with_later precedes x [] = x ∷ []
  with_later precedes x (y ∷ ys) = if precedes x y then x ∷ y ∷ ys else y ∷ with_later precedes x ys

  -- all of them, or the first n
  abbrev pub first_items : Option ℕ → List X → List X
  first_items None xs = xs
  first_items (Some n) xs = take n xs

  -- the rearrangement in which no item precedes the one before it, and ties keep their order
  abbrev pub IsOrdering : (X → X → Bool) → List X → List X → Type 0
  IsOrdering precedes xs ys = IsSortedBy precedes ys × IsStableBy precedes xs ys
