-- What a condition means over a table, its names replaced.
use Rattle.std.specs.Prelude.{ℕ, zero, suc, ℤ, pos, negsuc, Bool, ◌||◌, List, [], Option, Some, None, Result, Ok, Err}
use Rattle.grammar.specs.Trees.{Given, Tree, Trees, no_trees, more_trees, Test, place_of}
use Rattle.grammar.specs.Trees.{Test as test}
use Rattle.in_set.specs.Facts.{Facts}
use Rattle.lp_values.specs.declared.comparison.Compare.{Compare}
use Rattle.lp_values.specs.declared.comparison.Compare.TheVariants as how
use Rattle.lp_values.specs.declared.kind.Kind.{Kind}
use Rattle.lp_values.specs.declared.value.Value.{Value}
use Rattle.lp_values.specs.declared.kind.Kind.TheVariants as K
use Rattle.query_types.specs.declared.table.NamedKind.{NamedKind}
use Rattle.query_types.specs.declared.table.TableColumns.{TableColumns}
use Rattle.query_types.specs.Terms.{Term, has_column, any_has_column}
use Rattle.query_types.specs.declared.fault.TypeFault.{TypeFault}
use Rattle.query_types.specs.declared.fault.TypeFault.TheVariants as F
use Rattle.query_types.specs.declared.condition.Condition.{Condition, Or', And', Not', Compare as Compares, IsNull, Like, Between, Within, Contained}
use Rattle.query_types.specs.declared.alias.Alias.{Alias}
use Rattle.query_types.specs.Meanings.{followed, added, if_fits, fits, meant, kind_meant, where_it_is}

-- a condition over the rows of a table
pub data Filter : Type 0 where
  either : Filter → Filter → Filter
  both : Filter → Filter → Filter
  opposite : Filter → Filter
  compared : Compare → Term → Term → Filter
  null : Term → Bool → Filter
  like : Term → List ℕ → Bool → Filter
  between : Term → Term → Term → Bool → Filter
  within : Term → List Term → Bool → Filter
  contained : Term → Facts → Bool → Filter

-- the same, less where it lies in memory
abbrev pub filter_of : Condition → Filter
filter_of (Or' p a q b) = either (filter_of a) (filter_of b)
filter_of (And' p a q b) = both (filter_of a) (filter_of b)
filter_of (Not' p a) = opposite (filter_of a)
filter_of (Compares how left right) = compared how left right
filter_of (IsNull value negated) = null value negated
filter_of (Like value pattern negated) = like value pattern negated
filter_of (Between value low high negated) = between value low high negated
filter_of (Within value items negated) = within value items negated
filter_of (Contained value values negated) = contained value values.value negated

-- the comparison of a sign's number
abbrev pub compare_of : ℤ → Compare
compare_of (pos zero) = how.Equal
compare_of (pos (suc zero)) = how.NotEqual
compare_of (pos (suc (suc zero))) = how.Less
compare_of (pos (suc (suc (suc zero)))) = how.More
compare_of (pos (suc (suc (suc (suc zero))))) = how.LessEqual
compare_of (pos (suc (suc (suc (suc (suc n)))))) = how.MoreEqual
compare_of (negsuc n) = how.MoreEqual

-- a right side, whose kind has to fit the left one's
abbrev pub fitting : TableColumns → Value → List Alias → Kind → Tree → Result Term TypeFault
fitting table moment aliases kind right = followed (meant table moment aliases right) (if_fits table.columns kind (place_of right))

-- the values of an IN, each of a kind that fits
abbrev pub all_fitting : TableColumns → Value → List Alias → Kind → Trees → Result (List Term) TypeFault
all_fitting table moment aliases kind no_trees = Ok []
all_fitting table moment aliases kind (more_trees item items) = added (fitting table moment aliases kind item) (all_fitting table moment aliases kind items)

-- a value that is to be one of those that a subquery gave, whose kind has to fit; where it doesn't, the fault is at the subquery's
-- expression. A subquery that wasn't run gives no plan
abbrev pub contained_in : List NamedKind → ℕ → Bool → Option Given → Term → Result Filter TypeFault
contained_in columns at negated None value = Err (F.UnknownFunction at)
contained_in columns at negated (Some given) value = where_it_is (fits (kind_meant columns value) given.kind) (F.KindMismatch given.place) (contained value given.values negated)

-- what a condition means where these aliases are in force, or its first fault from the left
abbrev pub filtered : TableColumns → Value → List Alias → Test → Result Filter TypeFault
filtered table moment aliases (test.Or at a b) = followed (filtered table moment aliases a) (λ x. followed (filtered table moment aliases b) (λ y. Ok (either x y)))
filtered table moment aliases (test.And at a b) = followed (filtered table moment aliases a) (λ x. followed (filtered table moment aliases b) (λ y. Ok (both x y)))
filtered table moment aliases (test.Not at a) = followed (filtered table moment aliases a) (λ x. Ok (opposite x))
filtered table moment aliases (test.Compare at sign left right) =
    followed (meant table moment aliases left) (λ x. followed (fitting table moment aliases (kind_meant table.columns x) right) (λ y. Ok (compared (compare_of sign) x y)))
filtered table moment aliases (test.IsNull at value negated) = followed (meant table moment aliases value) (λ x. Ok (null x negated))
filtered table moment aliases (test.Like at value pattern negated) =
    followed (fitting table moment aliases K.Text value) (λ x. Ok (like x pattern.text negated))
filtered table moment aliases (test.Between at value low high negated) =
    followed (meant table moment aliases value) (λ x. followed (fitting table moment aliases (kind_meant table.columns x) low)
    (λ y. followed (fitting table moment aliases (kind_meant table.columns x) high) (λ z. Ok (between x y z negated))))
filtered table moment aliases (test.InList at value items negated) =
    followed (meant table moment aliases value) (λ x. followed (all_fitting table moment aliases (kind_meant table.columns x) items) (λ xs. Ok (within x xs negated)))
filtered table moment aliases (test.InQuery at value negated given) = followed (meant table moment aliases value) (contained_in table.columns at negated given)

-- whether a condition has the column at a place
abbrev pub mentions : ℕ → Filter → Bool
mentions k (either a b) = mentions k a || mentions k b
mentions k (both a b) = mentions k a || mentions k b
mentions k (opposite a) = mentions k a
mentions k (compared how left right) = has_column k left || has_column k right
mentions k (null value negated) = has_column k value
mentions k (like value pattern negated) = has_column k value
mentions k (between value low high negated) = has_column k value || has_column k low || has_column k high
mentions k (within value items negated) = has_column k value || any_has_column k items
mentions k (contained value values negated) = has_column k value
