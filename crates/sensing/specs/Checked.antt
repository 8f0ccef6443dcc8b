-- What a condition means where aliases are in force, or its first fault.
use Rattle.std.specs.Prelude.{ℕ, Bool, List, [], Option, Some, None, Result, Ok, Err}
use Rattle.grammar.specs.Trees.{Given, Tree, Trees, no_trees, more_trees, Test, place_of}
use Rattle.grammar.specs.Trees.{Test as test}
use Rattle.lp_values.specs.declared.kind.Kind.{Kind}
use Rattle.lp_values.specs.declared.kind.Kind.TheVariants as K
use Rattle.lp_values.specs.declared.value.Value.{Value}
use Rattle.query_types.specs.declared.fault.TypeFault.{TypeFault}
use Rattle.query_types.specs.declared.fault.TypeFault.TheVariants as F
use Rattle.query_types.specs.declared.table.NamedKind.{NamedKind}
use Rattle.query_types.specs.declared.table.TableColumns.{TableColumns}
use Rattle.query_types.specs.Conditions.{compare_of}
use Rattle.query_types.specs.Meanings.{added, fits, followed, where_it_is}
use Rattle.senses.specs.Senses.{Sense, kind_sensed}
use Rattle.senses.specs.Checks.{Check, either, both, opposite, compared, null, like, between, within, contained}
use Rattle.sensing.specs.Sensing.{Named, sensed, fitting_sense}

-- a value that is to be one of those that a subquery gave, whose kind has to fit; where it doesn't, the fault is at the subquery's
-- expression. A subquery that wasn't run gives no plan
abbrev pub contained_sense : List NamedKind → ℕ → Bool → Option Given → Sense → Result Check TypeFault
contained_sense columns at negated None value = Err (F.UnknownFunction at)
contained_sense columns at negated (Some given) value = where_it_is (fits (kind_sensed columns value) given.kind) (F.KindMismatch given.place) (contained value given.values negated)

module _ (wide : Bool) (table : TableColumns) (moment : Value) (aliases : List Named) where
  -- a right side, whose kind has to fit the left one's
  abbrev pub fit_sensed : Kind → Tree → Result Sense TypeFault
  fit_sensed kind right = followed (sensed wide table moment aliases right) (fitting_sense table.columns kind (place_of right))

  -- the values of an IN, each of a kind that fits
  abbrev pub all_fit_sensed : Kind → Trees → Result (List Sense) TypeFault
  all_fit_sensed kind no_trees = Ok []
  all_fit_sensed kind (more_trees item items) = added (fit_sensed kind item) (all_fit_sensed kind items)

  -- what a condition means where these aliases are in force, or its first fault from the left
  abbrev pub checked : Test → Result Check TypeFault
  checked (test.Or at a b) = followed (checked a) (λ x. followed (checked b) (λ y. Ok (either x y)))
  checked (test.And at a b) = followed (checked a) (λ x. followed (checked b) (λ y. Ok (both x y)))
  checked (test.Not at a) = followed (checked a) (λ x. Ok (opposite x))
  checked (test.Compare at sign left right) =
      followed (sensed wide table moment aliases left) (λ x. followed (fit_sensed (kind_sensed table.columns x) right) (λ y. Ok (compared (compare_of sign) x y)))
  checked (test.IsNull at value negated) = followed (sensed wide table moment aliases value) (λ x. Ok (null x negated))
  checked (test.Like at value pattern negated) = followed (fit_sensed K.Text value) (λ x. Ok (like x pattern.text negated))
  checked (test.Between at value low high negated) =
      followed (sensed wide table moment aliases value) (λ x. followed (fit_sensed (kind_sensed table.columns x) low)
      (λ y. followed (fit_sensed (kind_sensed table.columns x) high) (λ z. Ok (between x y z negated))))
  checked (test.InList at value items negated) =
      followed (sensed wide table moment aliases value) (λ x. followed (all_fit_sensed (kind_sensed table.columns x) items) (λ xs. Ok (within x xs negated)))
  checked (test.InQuery at value negated given) = followed (sensed wide table moment aliases value) (contained_sense table.columns at negated given)

  -- WHERE or HAVING, where it stands
  abbrev pub maybe_checked : Option Test → Result (Option Check) TypeFault
  maybe_checked None = Ok None
  maybe_checked (Some condition) = followed (checked condition) (λ check. Ok (Some check))
