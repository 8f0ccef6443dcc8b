-- Two rows that agree in the columns that a plan asks give it the same.
use Rattle.std.proofs.Common.{◌≡◌, ℕ, Bool, true, ◌==◌, List, [], ◌∷◌, get_or, Option, Some, None, refl, ap, ap₂, arith, rules}
use Rattle.std.proofs.lemmas.Bool.{or_left, or_right}
use Rattle.in_set.specs.Facts.{found}
use Rattle.lp_values.specs.declared.value.Value.{Value}
use Rattle.lp_values.specs.declared.value.Value.TheVariants.{Null}
use Rattle.lp_values.specs.declared.comparison.Compare.TheVariants as how
use Rattle.lp_values.specs.Comparing.{compared as comparison, truth_of}
use Rattle.lp_values.specs.Truths.{both as and_both, either as or_either, opposite as not_it}
use Rattle.query_types.specs.Terms.{Term, column, constant, made, Terms, no_terms, more_terms, has_column, have_column, any_has_column}
use Rattle.query_types.specs.Conditions.{Filter, either, both, opposite, compared, null, like, between, within, contained, mentions}
use Rattle.query_types.specs.Planned.{is_mentioned}
use Rattle.row_engine.specs.Rows.{value_in, values_in, made_by, among, truth_in, keeps, selected_in, is_null, is_yes, likeness, turned}

-- two rows agree in the columns for which a test holds
abbrev pub Agree : List Value → List Value → (ℕ → Bool) → Type 0
Agree values row asks = (k : ℕ) → asks k ≡ true → get_or values k Null ≡ get_or row k Null

same : (n : ℕ) → (n == n) ≡ true
same n = search (rules, arith)

mutual
  pub value_same : (values row : List Value) (term : Term) → Agree values row (λ k. has_column k term) → value_in values term ≡ value_in row term
  value_same values row (column n) is = is n (same n)
  value_same values row (constant value) is = refl
  value_same values row (made kind by of) is = ap (made_by by) (values_same values row of is)

  pub values_same : (values row : List Value) (terms : Terms) → Agree values row (λ k. have_column k terms) → values_in values terms ≡ values_in row terms
  values_same values row no_terms is = refl
  values_same values row (more_terms term terms) is =
      ap₂ (λ (v : Value) (vs : List Value). v ∷ vs) (value_same values row term (λ k h. is k (or_left _ _ h))) (values_same values row terms (λ k h. is k (or_right _ _ h)))

pub selected_same : (values row : List Value) (items : List Term) → Agree values row (λ k. any_has_column k items) → selected_in values items ≡ selected_in row items
selected_same values row [] is = refl
selected_same values row (item ∷ items) is =
    ap₂ (λ (v : Value) (vs : List Value). v ∷ vs) (value_same values row item (λ k h. is k (or_left _ _ h))) (selected_same values row items (λ k h. is k (or_right _ _ h)))

among_same : (values row : List Value) (v : Value) (items : List Term) → Agree values row (λ k. any_has_column k items) → among values v items ≡ among row v items
among_same values row v [] is = refl
among_same values row v (item ∷ items) is =
    ap₂ or_either (ap (comparison how.Equal v) (value_same values row item (λ k h. is k (or_left _ _ h)))) (among_same values row v items (λ k h. is k (or_right _ _ h)))

pub truth_same : (values row : List Value) (filter : Filter) → Agree values row (λ k. mentions k filter) → truth_in values filter ≡ truth_in row filter
truth_same values row (either a b) is = ap₂ or_either (truth_same values row a (λ k h. is k (or_left _ _ h))) (truth_same values row b (λ k h. is k (or_right _ _ h)))
truth_same values row (both a b) is = ap₂ and_both (truth_same values row a (λ k h. is k (or_left _ _ h))) (truth_same values row b (λ k h. is k (or_right _ _ h)))
truth_same values row (opposite a) is = ap not_it (truth_same values row a is)
truth_same values row (compared sign left right) is =
    ap₂ (comparison sign) (value_same values row left (λ k h. is k (or_left _ _ h))) (value_same values row right (λ k h. is k (or_right _ _ h)))
truth_same values row (null value negated) is = ap (λ (v : Value). turned negated (truth_of (is_null v))) (value_same values row value is)
truth_same values row (like value pattern negated) is = ap (λ (v : Value). turned negated (likeness v pattern)) (value_same values row value is)
truth_same values row (between value low high negated) is =
    let one = value_same values row value (λ k h. is k (or_left _ _ (or_left _ _ h))) in
    let two = value_same values row low (λ k h. is k (or_left _ _ (or_right _ _ h))) in
    let three = value_same values row high (λ k h. is k (or_right _ _ h)) in
    rw (one, two, three) refl
truth_same values row (within value items negated) is =
    let one = value_same values row value (λ k h. is k (or_left _ _ h)) in
    let two = among_same values row (value_in row value) items (λ k h. is k (or_right _ _ h)) in
    rw (one, two) refl
truth_same values row (contained value given negated) is = ap (λ (v : Value). turned negated (found given v)) (value_same values row value is)

pub keeps_same : (values row : List Value) (condition : Option Filter) → Agree values row (λ k. is_mentioned k condition) → keeps condition values ≡ keeps condition row
keeps_same values row None is = refl
keeps_same values row (Some filter) is = ap is_yes (truth_same values row filter is)
