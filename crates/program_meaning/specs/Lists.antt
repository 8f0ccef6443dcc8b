-- A query whose subqueries gave lists: each IN over one has the set of its list.
use Rattle.std.specs.Prelude.{ℕ, List, [], ◌∷◌}
use Rattle.grammar.specs.Trees.{Given, Query}
use Rattle.grammar.specs.Filled.{PlacedGiven, asked_places, filled}
use Rattle.in_set.specs.Facts.{facts_of}
use Rattle.lp_values.specs.declared.kind.Kind.TheVariants as K
use Rattle.lp_values.specs.declared.value.Value.{Value}

-- what stands for a list at an IN: the set of its values, which are of any kind, so that no fault comes of them
abbrev pub as_given : ℕ → List Value → Given
as_given at values = record { place = at; kind = K.Any; values = facts_of values; logs = []; bad = 0 }

-- for each place its list
abbrev pub lists_at : List ℕ → List (List Value) → List PlacedGiven
lists_at (at ∷ places) (values ∷ lists) = record { at = at; given = as_given at values } ∷ lists_at places lists
lists_at places lists = []

-- the query in which the IN of each subquery has its list
abbrev pub with_lists : List (List Value) → Query → Query
with_lists lists q = filled (lists_at (asked_places q) lists) q
