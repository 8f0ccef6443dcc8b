-- A query whose subqueries were run: each IN over one has what it gave.
use Rattle.std.specs.Prelude.{ℕ, ◌+◌, ◌==◌, List, [], ◌∷◌, ◌++◌, Option, Some, None, option_map}
use Rattle.std.specs.List.{find}
use Rattle.grammar.specs.Trees.{Given, Parts, Query, query, Test, Or, And, Not, Compare, IsNull, Like, Between, InList, InQuery}

-- what was given for the IN at a place
pub record PlacedGiven : Type 0 where
  pub at : ℕ
  pub given : Given

abbrev pub given_at : List PlacedGiven → ℕ → Option Given
given_at givens at = option_map (λ one. one.given) (find (λ one. one.at == at) givens)

abbrev pub filled_test : List PlacedGiven → Test → Test
filled_test givens (Or at a b) = Or at (filled_test givens a) (filled_test givens b)
filled_test givens (And at a b) = And at (filled_test givens a) (filled_test givens b)
filled_test givens (Not at a) = Not at (filled_test givens a)
filled_test givens (Compare at sign left right) = Compare at sign left right
filled_test givens (IsNull at value negated) = IsNull at value negated
filled_test givens (Like at value pattern negated) = Like at value pattern negated
filled_test givens (Between at value low high negated) = Between at value low high negated
filled_test givens (InList at value items negated) = InList at value items negated
filled_test givens (InQuery at value negated given) = InQuery at value negated (given_at givens at)

abbrev pub filled_parts : List PlacedGiven → Parts → Parts
filled_parts givens parts = record parts { condition = option_map (filled_test givens) parts.condition; having = option_map (filled_test givens) parts.having }

-- WHERE and HAVING alone have subqueries
abbrev pub filled : List PlacedGiven → Query → Query
filled givens (query parts subqueries) = query (filled_parts givens parts) subqueries

-- the places of the INs over subqueries in a condition, from left to right
abbrev pub asked_in : Test → List ℕ
asked_in (Or at a b) = asked_in a ++ asked_in b
asked_in (And at a b) = asked_in a ++ asked_in b
asked_in (Not at a) = asked_in a
asked_in (Compare at sign left right) = []
asked_in (IsNull at value negated) = []
asked_in (Like at value pattern negated) = []
asked_in (Between at value low high negated) = []
asked_in (InList at value items negated) = []
asked_in (InQuery at value negated given) = at ∷ []

abbrev pub maybe_asked : Option Test → List ℕ
maybe_asked None = []
maybe_asked (Some test) = asked_in test

-- those of a query, in the order of its subqueries
abbrev pub asked_places : Query → List ℕ
asked_places (query parts subqueries) = maybe_asked parts.condition ++ maybe_asked parts.having

-- the names of the logs that subqueries read
abbrev pub logs_in : Option Given → List (List ℕ)
logs_in None = []
logs_in (Some given) = given.logs

abbrev pub test_logs : Test → List (List ℕ)
test_logs (Or at a b) = test_logs a ++ test_logs b
test_logs (And at a b) = test_logs a ++ test_logs b
test_logs (Not at a) = test_logs a
test_logs (Compare at sign left right) = []
test_logs (IsNull at value negated) = []
test_logs (Like at value pattern negated) = []
test_logs (Between at value low high negated) = []
test_logs (InList at value items negated) = []
test_logs (InQuery at value negated given) = logs_in given

abbrev pub maybe_logs : Option Test → List (List ℕ)
maybe_logs None = []
maybe_logs (Some test) = test_logs test

abbrev pub given_logs : Query → List (List ℕ)
given_logs (query parts subqueries) = maybe_logs parts.condition ++ maybe_logs parts.having

-- how many bad lines these logs have
abbrev pub bad_in : Option Given → ℕ
bad_in None = 0
bad_in (Some given) = given.bad

abbrev pub test_bad : Test → ℕ
test_bad (Or at a b) = test_bad a + test_bad b
test_bad (And at a b) = test_bad a + test_bad b
test_bad (Not at a) = test_bad a
test_bad (Compare at sign left right) = 0
test_bad (IsNull at value negated) = 0
test_bad (Like at value pattern negated) = 0
test_bad (Between at value low high negated) = 0
test_bad (InList at value items negated) = 0
test_bad (InQuery at value negated given) = bad_in given

abbrev pub maybe_bad : Option Test → ℕ
maybe_bad None = 0
maybe_bad (Some test) = test_bad test

abbrev pub given_bad : Query → ℕ
given_bad (query parts subqueries) = maybe_bad parts.condition + maybe_bad parts.having
