-- What is the same in each row, worked out once.
use Rattle.std.specs.Prelude.{Bool, true, false, ◌&&◌, ◌||◌, [], map, Option, Some, None, if◌then◌else◌}
use Rattle.std.specs.List.{list_all}
use Rattle.query_types.specs.Terms.{Term, column, constant, made, Terms, no_terms, more_terms}
use Rattle.query_types.specs.Conditions.{Filter, either, both, opposite, compared, null, like, between, within, contained}
use Rattle.row_engine.specs.Rows.{made_by, values_in}

-- whether a term has a column, so that rows may differ in it
abbrev mutual
  pub varies : Term → Bool
  varies (column k) = true
  varies (constant value) = false
  varies (made kind by of) = any_varies of

  pub any_varies : Terms → Bool
  any_varies no_terms = false
  any_varies (more_terms term terms) = varies term || any_varies terms

-- whether all that has no column is a constant
abbrev mutual
  pub is_settled : Term → Bool
  is_settled (column k) = true
  is_settled (constant value) = true
  is_settled (made kind by of) = any_varies of && are_settled of

  pub are_settled : Terms → Bool
  are_settled no_terms = true
  are_settled (more_terms term terms) = is_settled term && are_settled terms

abbrev pub is_settled_test : Filter → Bool
is_settled_test (either a b) = is_settled_test a && is_settled_test b
is_settled_test (both a b) = is_settled_test a && is_settled_test b
is_settled_test (opposite a) = is_settled_test a
is_settled_test (compared how left right) = is_settled left && is_settled right
is_settled_test (null value negated) = is_settled value
is_settled_test (like value pattern negated) = is_settled value
is_settled_test (between value low high negated) = is_settled value && is_settled low && is_settled high
is_settled_test (within value items negated) = is_settled value && list_all is_settled items
is_settled_test (contained value values negated) = is_settled value

abbrev pub is_settled_where : Option Filter → Bool
is_settled_where None = true
is_settled_where (Some filter) = is_settled_test filter

-- the same term, what has no column in it worked out
abbrev mutual
  pub settled : Term → Term
  settled (column k) = column k
  settled (constant value) = constant value
  settled (made kind by of) = if any_varies of then made kind by (all_settled of) else constant (made_by by (values_in [] of))

  pub all_settled : Terms → Terms
  all_settled no_terms = no_terms
  all_settled (more_terms term terms) = more_terms (settled term) (all_settled terms)

-- the same condition
abbrev pub settled_test : Filter → Filter
settled_test (either a b) = either (settled_test a) (settled_test b)
settled_test (both a b) = both (settled_test a) (settled_test b)
settled_test (opposite a) = opposite (settled_test a)
settled_test (compared how left right) = compared how (settled left) (settled right)
settled_test (null value negated) = null (settled value) negated
settled_test (like value pattern negated) = like (settled value) pattern negated
settled_test (between value low high negated) = between (settled value) (settled low) (settled high) negated
settled_test (within value items negated) = within (settled value) (map settled items) negated
settled_test (contained value values negated) = contained (settled value) values negated
