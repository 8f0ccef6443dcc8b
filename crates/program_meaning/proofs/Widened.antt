-- A query with the lists that its subqueries gave has the plan that it has with what they gave, since kinds alone differ and any kind fits.
use Rattle.std.proofs.Common.{◌≡◌, ℕ, ℤ, Bool, true, false, List, [], ◌∷◌, Option, Some, None, inl, inr, refl, sym, ◌∙◌, ap}
use Rattle.std.specs.Prelude.{Result, Ok, Err, option_map, ◌==◌, ◌&&◌, ◌||◌, not, if◌then◌else◌, ⊤}
use Rattle.std.specs.List.{AllZip, find}
use Rattle.std.specs.Option.{is_none}
use Rattle.std.proofs.lemmas.Bool.{cases_Bool}
use Rattle.grammar.specs.Filled.{PlacedGiven, filled, filled_parts, filled_test, given_at}
use Rattle.grammar.specs.Trees.{Given, Parts, Query, query, Test, Or, And, Not, Compare, IsNull, Like, Between, InList, InQuery, test_place}
use Rattle.lp_values.specs.declared.kind.Kind.{Kind}
use Rattle.lp_values.specs.declared.kind.Kind.TheVariants as K
use Rattle.lp_values.specs.declared.part.Part.TheVariants.{Both}
use Rattle.lp_values.specs.declared.value.Value.{Value}
use Rattle.slot_reading.specs.Stamps.{stamp_value}
use Rattle.query_types.specs.declared.alias.Alias.{Alias}
use Rattle.query_types.specs.declared.fault.TypeFault.{TypeFault}
use Rattle.query_types.specs.declared.table.NamedKind.{NamedKind}
use Rattle.query_types.specs.declared.table.TableColumns.{TableColumns}
use Rattle.query_types.specs.Built.{is_built, is_plain_test, is_plain_where}
use Rattle.query_types.specs.Conditions.{Filter, contained_in, filtered}
use Rattle.query_types.specs.Meanings.{fits, followed, kind_meant}
use Rattle.query_types.specs.Planned.{Planned, filter_and_order, plan_behind, plan_of, plan_of_parts, where_meant}
use Rattle.query_types.specs.Terms.{Term}
use Rattle.group_planning.specs.Asked.{is_grouped, maybe_has, test_has}
use Rattle.group_planning.specs.Checked.{checked, contained_sense, maybe_checked}
use Rattle.group_planning.specs.Clauses.{Clauses, all_named, clauses_behind, clauses_sensed, using_named}
use Rattle.group_planning.specs.Groups.{Grouped, group_plan_of, groups_behind, groups_of_parts}
use Rattle.group_planning.specs.Senses.{Sense, kind_sensed}
use Rattle.group_planning.specs.Sensing.{Named}
use Rattle.subqueries.specs.Plans.{PlannedQuery, of_groups, of_rows, query_plan}

-- what is Ok is the same in another
abbrev Keeps : {A : Type 0} → Result A TypeFault → Result A TypeFault → Type 0
Keeps {A} one other = (a : A) → one ≡ Ok a → other ≡ Ok a

keeps_same : {A : Type 0} (r : Result A TypeFault) → Keeps r r
keeps_same r a is = is

keeps_followed : {A B : Type 0} (r s : Result A TypeFault) (f g : A → Result B TypeFault) → Keeps r s → ((a : A) → Keeps (f a) (g a)) → Keeps (followed r f) (followed s g)
keeps_followed (Err fault) s f g first next b is = absurd (cc)
keeps_followed (Ok a) s f g first next b is = rw (first a refl) (next a b is)

-- the same set at the same place, of any kind
pub record Widens (one wide : PlacedGiven) : Type 0 where
  pub at : one.at ≡ wide.at
  pub values : one.given.values ≡ wide.given.values
  pub kind : wide.given.kind ≡ K.Any

abbrev WidensAt : Option Given → Option Given → Type 0
WidensAt None wide = ⊤
WidensAt (Some given) None = ⊥
WidensAt (Some given) (Some wide) = (given.values ≡ wide.values) × (wide.kind ≡ K.Any)

found_given : (givens : List PlacedGiven) (one : PlacedGiven) (at : ℕ) → (one.at == at) ≡ true → given_at (one ∷ givens) at ≡ Some one.given
found_given givens one at here = rw here refl

passed_given : (givens : List PlacedGiven) (one : PlacedGiven) (at : ℕ) → (one.at == at) ≡ false → given_at (one ∷ givens) at ≡ given_at givens at
passed_given givens one at other = rw other refl

widens_at : (givens wide : List PlacedGiven) (at : ℕ) → AllZip Widens givens wide → WidensAt (given_at givens at) (given_at wide at)
widens_at [] [] at all = tt
widens_at [] (w ∷ wide) at all = absurd all
widens_at (g ∷ givens) [] at all = absurd all
widens_at (g ∷ givens) (w ∷ wide) at (first, more) = elim (cases_Bool (g.at == at)) [
  | inl here ↦
      let there : (w.at == at) ≡ true = ap (λ (k : ℕ). k == at) (sym first.at) ∙ here in
      rw (found_given givens g at here, found_given wide w at there) (first.values, first.kind)
  | inr other ↦
      let away : (w.at == at) ≡ false = ap (λ (k : ℕ). k == at) (sym first.at) ∙ other in
      rw (passed_given givens g at other, passed_given wide w at away) (widens_at givens wide at more)
]

any_fits : (kind : Kind) → fits kind K.Any ≡ true
any_fits K.Integer = refl
any_fits K.Real = refl
any_fits K.Text = refl
any_fits K.Stamp = refl
any_fits K.Any = refl

same_ok : {A : Type 0} (fits : Bool) (fault : TypeFault) (value a : A) → (if fits then Ok value else Err fault) ≡ Ok a → value ≡ a
same_ok true fault value a is = cc
same_ok false fault value a is = absurd (cc)

contained_widens : (columns : List NamedKind) (at : ℕ) (negated : Bool) (given wide : Option Given) (value : Term) → WidensAt given wide → Keeps (contained_in columns at negated given value) (contained_in columns at negated wide value)
contained_widens columns at negated None wide value w filter is = absurd (cc)
contained_widens columns at negated (Some given) None value w filter is = absurd w
contained_widens columns at negated (Some given) (Some wide) value (values, kind) filter is =
    let any : fits (kind_meant columns value) wide.kind ≡ true = ap (fits (kind_meant columns value)) kind ∙ any_fits (kind_meant columns value) in
    rw (any, sym values) (ap Ok (same_ok (fits (kind_meant columns value) given.kind) _ _ filter is))

sense_widens : (columns : List NamedKind) (at : ℕ) (negated : Bool) (given wide : Option Given) (value : Sense) → WidensAt given wide → Keeps (contained_sense columns at negated given value) (contained_sense columns at negated wide value)
sense_widens columns at negated None wide value w check is = absurd (cc)
sense_widens columns at negated (Some given) None value w check is = absurd w
sense_widens columns at negated (Some given) (Some wide) value (values, kind) check is =
    let any : fits (kind_sensed columns value) wide.kind ≡ true = ap (fits (kind_sensed columns value)) kind ∙ any_fits (kind_sensed columns value) in
    rw (any, sym values) (ap Ok (same_ok (fits (kind_sensed columns value) given.kind) _ _ check is))

-- what isn't asked of a subquery is the same

both_are : (a b c d : Bool) → a ≡ c → b ≡ d → (a && b) ≡ (c && d)
both_are a b c d e f = cc

either_are : (a b c d : Bool) → a ≡ c → b ≡ d → (a || b) ≡ (c || d)
either_are a b c d e f = cc

plain_filled : (givens : List PlacedGiven) (test : Test) → is_plain_test (filled_test givens test) ≡ is_plain_test test
plain_filled givens (Or at a b) = both_are _ _ _ _ (plain_filled givens a) (plain_filled givens b)
plain_filled givens (And at a b) = both_are _ _ _ _ (plain_filled givens a) (plain_filled givens b)
plain_filled givens (Not at a) = plain_filled givens a
plain_filled givens (Compare at sign left right) = refl
plain_filled givens (IsNull at value negated) = refl
plain_filled givens (Like at value pattern negated) = refl
plain_filled givens (Between at value low high negated) = refl
plain_filled givens (InList at value items negated) = refl
plain_filled givens (InQuery at value negated given) = refl

has_filled : (givens : List PlacedGiven) (test : Test) → test_has (filled_test givens test) ≡ test_has test
has_filled givens (Or at a b) = either_are _ _ _ _ (has_filled givens a) (has_filled givens b)
has_filled givens (And at a b) = either_are _ _ _ _ (has_filled givens a) (has_filled givens b)
has_filled givens (Not at a) = has_filled givens a
has_filled givens (Compare at sign left right) = refl
has_filled givens (IsNull at value negated) = refl
has_filled givens (Like at value pattern negated) = refl
has_filled givens (Between at value low high negated) = refl
has_filled givens (InList at value items negated) = refl
has_filled givens (InQuery at value negated given) = refl

place_filled : (givens : List PlacedGiven) (test : Test) → test_place (filled_test givens test) ≡ test_place test
place_filled givens (Or at a b) = refl
place_filled givens (And at a b) = refl
place_filled givens (Not at a) = refl
place_filled givens (Compare at sign left right) = refl
place_filled givens (IsNull at value negated) = refl
place_filled givens (Like at value pattern negated) = refl
place_filled givens (Between at value low high negated) = refl
place_filled givens (InList at value items negated) = refl
place_filled givens (InQuery at value negated given) = refl

plain_where : (givens : List PlacedGiven) (condition : Option Test) → is_plain_where (option_map (filled_test givens) condition) ≡ is_plain_where condition
plain_where givens None = refl
plain_where givens (Some test) = plain_filled givens test

having_filled : (givens : List PlacedGiven) (condition : Option Test) → is_none (option_map (filled_test givens) condition) ≡ is_none condition
having_filled givens None = refl
having_filled givens (Some test) = refl

maybe_filled : (givens : List PlacedGiven) (condition : Option Test) → maybe_has (option_map (filled_test givens) condition) ≡ maybe_has condition
maybe_filled givens None = refl
maybe_filled givens (Some test) = has_filled givens test

places_filled : (givens : List PlacedGiven) (condition : Option Test) → option_map test_place (option_map (filled_test givens) condition) ≡ option_map test_place condition
places_filled givens None = refl
places_filled givens (Some test) = ap Some (place_filled givens test)

-- a query goes over rows, or has groups, whatever its subqueries gave

pub built_filled : (givens : List PlacedGiven) (q : Query) → is_built (filled givens q) ≡ is_built q
built_filled givens (query parts subqueries) = rw (plain_where givens parts.condition, having_filled givens parts.having) refl

pub grouped_filled : (givens : List PlacedGiven) (q : Query) → is_grouped (filled givens q) ≡ is_grouped q
grouped_filled givens (query parts subqueries) = rw (maybe_filled givens parts.condition, maybe_filled givens parts.having) refl

module _ (givens wide : List PlacedGiven) (all : AllZip Widens givens wide) (table : TableColumns) where
  -- conditions over rows
  filtered_widens : (moment : Value) (aliases : List Alias) (test : Test) → Keeps (filtered table moment aliases (filled_test givens test)) (filtered table moment aliases (filled_test wide test))
  filtered_widens moment aliases (Or at a b) = keeps_followed _ _ _ _ (filtered_widens moment aliases a) (λ x. keeps_followed _ _ _ _ (filtered_widens moment aliases b) (λ y. keeps_same _))
  filtered_widens moment aliases (And at a b) = keeps_followed _ _ _ _ (filtered_widens moment aliases a) (λ x. keeps_followed _ _ _ _ (filtered_widens moment aliases b) (λ y. keeps_same _))
  filtered_widens moment aliases (Not at a) = keeps_followed _ _ _ _ (filtered_widens moment aliases a) (λ x. keeps_same _)
  filtered_widens moment aliases (Compare at sign left right) = keeps_same _
  filtered_widens moment aliases (IsNull at value negated) = keeps_same _
  filtered_widens moment aliases (Like at value pattern negated) = keeps_same _
  filtered_widens moment aliases (Between at value low high negated) = keeps_same _
  filtered_widens moment aliases (InList at value items negated) = keeps_same _
  filtered_widens moment aliases (InQuery at value negated given) = keeps_followed _ _ _ _ (keeps_same _) (λ x. contained_widens table.columns at negated (given_at givens at) (given_at wide at) x (widens_at givens wide at all))

  where_widens : (moment : Value) (aliases : List Alias) (condition : Option Test) → Keeps (where_meant table moment aliases (option_map (filled_test givens) condition)) (where_meant table moment aliases (option_map (filled_test wide) condition))
  where_widens moment aliases None = keeps_same _
  where_widens moment aliases (Some test) = keeps_followed _ _ _ _ (filtered_widens moment aliases test) (λ x. keeps_same _)

  order_widens : (moment : Value) (aliases : List Alias) (parts : Parts) (items : List Term) → Keeps (filter_and_order table moment aliases (filled_parts givens parts) items) (filter_and_order table moment aliases (filled_parts wide parts) items)
  order_widens moment aliases parts items = keeps_followed _ _ _ _ (where_widens moment aliases parts.condition) (λ x. keeps_same _)

  behind_widens : (moment : Value) (using aliases : List Alias) (parts : Parts) (aliased : List Term) → Keeps (plan_behind table moment using aliases (filled_parts givens parts) aliased) (plan_behind table moment using aliases (filled_parts wide parts) aliased)
  behind_widens moment using aliases parts aliased = keeps_followed _ _ _ _ (keeps_same _) (λ items. keeps_followed _ _ _ _ (order_widens moment aliases parts items) (λ x. keeps_same _))

  rows_widen : (moment : ℤ) (q : Query) → Keeps (plan_of table moment (filled givens q)) (plan_of table moment (filled wide q))
  rows_widen moment (query parts subqueries) = keeps_followed _ _ _ _ (keeps_same _) (λ aliased. behind_widens (stamp_value Both moment) _ _ parts aliased)

  -- and over groups
  checked_widens : (within : Bool) (moment : Value) (aliases : List Named) (test : Test) → Keeps (checked within table moment aliases (filled_test givens test)) (checked within table moment aliases (filled_test wide test))
  checked_widens within moment aliases (Or at a b) = keeps_followed _ _ _ _ (checked_widens within moment aliases a) (λ x. keeps_followed _ _ _ _ (checked_widens within moment aliases b) (λ y. keeps_same _))
  checked_widens within moment aliases (And at a b) = keeps_followed _ _ _ _ (checked_widens within moment aliases a) (λ x. keeps_followed _ _ _ _ (checked_widens within moment aliases b) (λ y. keeps_same _))
  checked_widens within moment aliases (Not at a) = keeps_followed _ _ _ _ (checked_widens within moment aliases a) (λ x. keeps_same _)
  checked_widens within moment aliases (Compare at sign left right) = keeps_same _
  checked_widens within moment aliases (IsNull at value negated) = keeps_same _
  checked_widens within moment aliases (Like at value pattern negated) = keeps_same _
  checked_widens within moment aliases (Between at value low high negated) = keeps_same _
  checked_widens within moment aliases (InList at value items negated) = keeps_same _
  checked_widens within moment aliases (InQuery at value negated given) = keeps_followed _ _ _ _ (keeps_same _) (λ x. sense_widens table.columns at negated (given_at givens at) (given_at wide at) x (widens_at givens wide at all))

  maybe_widens : (within : Bool) (moment : Value) (aliases : List Named) (condition : Option Test) → Keeps (maybe_checked within table moment aliases (option_map (filled_test givens) condition)) (maybe_checked within table moment aliases (option_map (filled_test wide) condition))
  maybe_widens within moment aliases None = keeps_same _
  maybe_widens within moment aliases (Some test) = keeps_followed _ _ _ _ (checked_widens within moment aliases test) (λ x. keeps_same _)

  clauses_widen : (moment : Value) (parts : Parts) (aliases : List Named) (aliased items : List Sense) → Keeps (clauses_behind table moment (filled_parts givens parts) aliases aliased items) (clauses_behind table moment (filled_parts wide parts) aliases aliased items)
  clauses_widen moment parts aliases aliased items = keeps_followed _ _ _ _ (keeps_followed _ _ _ _ (maybe_widens false moment aliases parts.condition) (λ condition. keeps_same _))
      (λ w. keeps_followed _ _ _ _ (keeps_followed _ _ _ _ (maybe_widens true moment aliases parts.having) (λ having. keeps_same _)) (λ e. keeps_same _))

  grouped_widens : (grouped : Bool) (moment : Value) (parts : Parts) (clauses : Clauses) → Keeps (groups_behind grouped table moment (filled_parts givens parts) clauses) (groups_behind grouped table moment (filled_parts wide parts) clauses)
  grouped_widens grouped moment parts clauses = rw (places_filled givens parts.having, places_filled wide parts.having) (keeps_same _)

  parts_widen : (grouped : Bool) (moment : Value) (parts : Parts) → Keeps (groups_of_parts grouped table moment (filled_parts givens parts)) (groups_of_parts grouped table moment (filled_parts wide parts))
  parts_widen grouped moment parts = keeps_followed _ _ _ _ (keeps_followed _ _ _ _ (keeps_same _) (λ s. clauses_widen moment parts _ s.0 s.1)) (λ clauses. grouped_widens grouped moment parts clauses)

  groups_widen : (moment : ℤ) (q : Query) → Keeps (group_plan_of table moment (filled givens q)) (group_plan_of table moment (filled wide q))
  groups_widen moment (query parts subqueries) plan is =
      let one : is_grouped (filled givens (query parts subqueries)) ≡ is_grouped (filled wide (query parts subqueries)) = grouped_filled givens (query parts subqueries) ∙ sym (grouped_filled wide (query parts subqueries)) in
      rw (sym one) (parts_widen (is_grouped (filled givens (query parts subqueries))) (stamp_value Both moment) parts plan is)

  -- the plan of a query is the same
  pub plan_widens : (moment : ℤ) (q : Query) (plan : PlannedQuery) → query_plan table moment (filled givens q) ≡ Ok plan → query_plan table moment (filled wide q) ≡ Ok plan
  plan_widens moment q plan is =
      let same : is_built (filled wide q) ≡ is_built (filled givens q) = built_filled wide q ∙ sym (built_filled givens q) in
      elim (cases_Bool (is_built (filled givens q))) [
        | inl rows ↦ let all_rows : is_built (filled wide q) ≡ true = same ∙ rows in rw all_rows (keeps_followed _ _ _ _ (rows_widen moment q) (λ x. keeps_same _) plan (rw rows at is))
        | inr groups ↦ let none : is_built (filled wide q) ≡ false = same ∙ groups in rw none (keeps_followed _ _ _ _ (groups_widen moment q) (λ x. keeps_same _) plan (rw groups at is))
      ]
