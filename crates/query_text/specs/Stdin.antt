-- Where STDIN can't stand as a name: beside another name, and in a subquery.
use Rattle.std.specs.Prelude.{ℕ, Bool, List, [], ◌∷◌, codes, Option, Some, None, option_map}
use Rattle.std.specs.List.{find}
use Rattle.std.specs.Str.{str_eq_ignore_ascii_case}
use Rattle.grammar.specs.Trees.{Placed, Query, Queries, no_queries, more_queries}
use Rattle.grammar.specs.Trees.{Query as query}

abbrev pub is_stdin : List ℕ → Bool
is_stdin name = str_eq_ignore_ascii_case name (codes "STDIN")

-- the place of the first STDIN among names
abbrev pub stdin_among : List Placed → Option ℕ
stdin_among names = option_map (λ name. name.at) (find (λ name. is_stdin name.text) names)

-- the same beside another name
abbrev pub stdin_beside : List Placed → Option ℕ
stdin_beside [] = None
stdin_beside (name ∷ []) = None
stdin_beside (name ∷ next ∷ names) = stdin_among (name ∷ next ∷ names)

abbrev pub names_in : Query → List Placed
names_in (query.query parts subqueries) = parts.names

abbrev pub or_else : Option ℕ → Option ℕ → Option ℕ
or_else None next = next
or_else (Some at) next = Some at

-- the same in subqueries
abbrev pub stdin_within : Queries → Option ℕ
stdin_within no_queries = None
stdin_within (more_queries q qs) = or_else (stdin_among (names_in q)) (stdin_within qs)

-- the place of the first STDIN of a query that can't stand there
abbrev pub misplaced : Query → Option ℕ
misplaced (query.query parts subqueries) = or_else (stdin_beside parts.names) (stdin_within subqueries)
