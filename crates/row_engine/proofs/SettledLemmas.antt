-- What has no column is the same in each row, so it can be worked out once.
use Rattle.std.proofs.Common.{◌≡◌, ◌∙◌, ◌<◌, ◌+◌, ◌||◌, ◌&&◌, ℕ, Bool, true, false, cond, List, [], ◌∷◌, length, drop, get_or, map, Option, Some, None, option_map, refl, sym, ap, ap₂, Vec}
use Rattle.std.specs.List.{list_all}
use Rattle.std.specs.declared.alloc.Global.{Global}
use Rattle.in_set.specs.Facts.{found}
use Rattle.lp_values.specs.declared.comparison.Compare.TheVariants as how
use Rattle.lp_values.specs.declared.kind.Kind.{Kind}
use Rattle.lp_values.specs.declared.value.Value.{Value}
use Rattle.lp_values.specs.Comparing.{compared as comparison, truth_of}
use Rattle.lp_values.specs.Truths.{both as and_both, either as or_either, opposite as not_it}
use Rattle.query_types.specs.declared.form.Form.{Form}
use Rattle.query_types.specs.declared.form.Form.TheViews as shown
use Rattle.query_types.specs.declared.form.Operation.{Operation}
use Rattle.query_types.specs.Terms.{Maker, Term, column, constant, made, Terms, no_terms, more_terms, maker_of, term_of, terms_of}
use Rattle.query_types.specs.Conditions.{Filter, either, both, opposite, compared, null, like, between, within, contained}
use Rattle.query_types.proofs.Forms.{dropped, made_term}
use Rattle.row_engine.specs.Rows.{among, is_null, is_yes, keeps, likeness, made_by, selected_in, truth_in, turned, value_in, values_in}
use Rattle.row_engine.specs.Settled.{all_settled, any_varies, are_settled, is_settled, is_settled_test, is_settled_where, settled, settled_test, varies}

or_false : (a b : Bool) → (a || b) ≡ false → (a ≡ false) × (b ≡ false)
or_false false b is = (refl, is)
or_false true b is = absurd cc

and_true : (a b : Bool) → a ≡ true → b ≡ true → (a && b) ≡ true
and_true a b one two = rw (one, two) refl

mutual
  -- what has no column is the same in each row
  value_fixed : (row : List Value) (term : Term) → varies term ≡ false → value_in [] term ≡ value_in row term
  value_fixed row (column k) is = absurd cc
  value_fixed row (constant value) is = refl
  value_fixed row (made kind by of) is = ap (made_by by) (values_fixed row of is)

  values_fixed : (row : List Value) (terms : Terms) → any_varies terms ≡ false → values_in [] terms ≡ values_in row terms
  values_fixed row no_terms is = refl
  values_fixed row (more_terms term terms) is =
      let none = or_false (varies term) (any_varies terms) is in
      ap₂ (λ (v : Value) (vs : List Value). v ∷ vs) (value_fixed row term none.0) (values_fixed row terms none.1)

made_settled : (row : List Value) (kind : Kind) (by : Maker) (of all : Terms) (b : Bool) → any_varies of ≡ b → values_in row all ≡ values_in row of
    → value_in row (cond b (made kind by all) (constant (made_by by (values_in [] of)))) ≡ made_by by (values_in row of)
made_settled row kind by of all true is same = ap (made_by by) same
made_settled row kind by of all false is same = ap (made_by by) (values_fixed row of is)

mutual
  value_settled : (row : List Value) (term : Term) → value_in row (settled term) ≡ value_in row term
  value_settled row (column k) = refl
  value_settled row (constant value) = refl
  value_settled row (made kind by of) = made_settled row kind by of (all_settled of) (any_varies of) refl (values_settled row of)

  values_settled : (row : List Value) (terms : Terms) → values_in row (all_settled terms) ≡ values_in row terms
  values_settled row no_terms = refl
  values_settled row (more_terms term terms) = ap₂ (λ (v : Value) (vs : List Value). v ∷ vs) (value_settled row term) (values_settled row terms)

made_varies : (kind : Kind) (by : Maker) (of all : Terms) (value : Value) (b : Bool) → any_varies of ≡ b → any_varies all ≡ any_varies of
    → varies (cond b (made kind by all) (constant value)) ≡ any_varies of
made_varies kind by of all value true is same = same
made_varies kind by of all value false is same = sym is

mutual
  varies_settled : (term : Term) → varies (settled term) ≡ varies term
  varies_settled (column k) = refl
  varies_settled (constant value) = refl
  varies_settled (made kind by of) = made_varies kind by of (all_settled of) (made_by by (values_in [] of)) (any_varies of) refl (any_varies_settled of)

  any_varies_settled : (terms : Terms) → any_varies (all_settled terms) ≡ any_varies terms
  any_varies_settled no_terms = refl
  any_varies_settled (more_terms term terms) = ap₂ (λ (a b : Bool). a || b) (varies_settled term) (any_varies_settled terms)

made_done : (kind : Kind) (by : Maker) (of all : Terms) (value : Value) (b : Bool) → any_varies of ≡ b → any_varies all ≡ any_varies of → are_settled all ≡ true
    → is_settled (cond b (made kind by all) (constant value)) ≡ true
made_done kind by of all value true is same done = and_true (any_varies all) (are_settled all) (same ∙ is) done
made_done kind by of all value false is same done = refl

mutual
  done : (term : Term) → is_settled (settled term) ≡ true
  done (column k) = refl
  done (constant value) = refl
  done (made kind by of) = made_done kind by of (all_settled of) (made_by by (values_in [] of)) (any_varies of) refl (any_varies_settled of) (all_done of)

  all_done : (terms : Terms) → are_settled (all_settled terms) ≡ true
  all_done no_terms = refl
  all_done (more_terms term terms) = and_true (is_settled (settled term)) (are_settled (all_settled terms)) (done term) (all_done terms)

pub selected_settled : (row : List Value) (items : List Term) → selected_in row (map settled items) ≡ selected_in row items
selected_settled row [] = refl
selected_settled row (item ∷ items) = ap₂ (λ (v : Value) (vs : List Value). v ∷ vs) (value_settled row item) (selected_settled row items)

pub items_done : (items : List Term) → list_all is_settled (map settled items) ≡ true
items_done [] = refl
items_done (item ∷ items) = and_true (is_settled (settled item)) (list_all is_settled (map settled items)) (done item) (items_done items)

among_settled : (row : List Value) (v : Value) (items : List Term) → among row v (map settled items) ≡ among row v items
among_settled row v [] = refl
among_settled row v (item ∷ items) = ap₂ or_either (ap (comparison how.Equal v) (value_settled row item)) (among_settled row v items)

truth_settled : (row : List Value) (filter : Filter) → truth_in row (settled_test filter) ≡ truth_in row filter
truth_settled row (either a b) = ap₂ or_either (truth_settled row a) (truth_settled row b)
truth_settled row (both a b) = ap₂ and_both (truth_settled row a) (truth_settled row b)
truth_settled row (opposite a) = ap not_it (truth_settled row a)
truth_settled row (compared sign left right) = ap₂ (comparison sign) (value_settled row left) (value_settled row right)
truth_settled row (null value negated) = ap (λ (v : Value). turned negated (truth_of (is_null v))) (value_settled row value)
truth_settled row (like value pattern negated) = ap (λ (v : Value). turned negated (likeness v pattern)) (value_settled row value)
truth_settled row (between value low high negated) =
    let one = value_settled row value in
    let two = value_settled row low in
    let three = value_settled row high in
    rw (one, two, three) refl
truth_settled row (within value items negated) =
    let one = value_settled row value in
    let two = among_settled row (value_in row value) items in
    rw (one, two) refl
truth_settled row (contained value values negated) = ap (λ (v : Value). turned negated (found values v)) (value_settled row value)

pub keeps_settled : (row : List Value) (condition : Option Filter) → keeps (option_map settled_test condition) row ≡ keeps condition row
keeps_settled row None = refl
keeps_settled row (Some filter) = ap is_yes (truth_settled row filter)

test_done : (filter : Filter) → is_settled_test (settled_test filter) ≡ true
test_done (either a b) = and_true _ _ (test_done a) (test_done b)
test_done (both a b) = and_true _ _ (test_done a) (test_done b)
test_done (opposite a) = test_done a
test_done (compared sign left right) = and_true _ _ (done left) (done right)
test_done (null value negated) = done value
test_done (like value pattern negated) = done value
test_done (between value low high negated) = and_true _ _ (and_true _ _ (done value) (done low)) (done high)
test_done (within value items negated) = and_true _ _ (done value) (items_done items)
test_done (contained value values negated) = done value

pub where_done : (condition : Option Filter) → is_settled_where (option_map settled_test condition) ≡ true
where_done None = refl
where_done (Some filter) = test_done filter

pub varies_step : (forms : List Form) (i : ℕ) (form : Form) → i < length forms → form ≡ get_or forms i form
    → any_varies (terms_of (map term_of (drop i forms))) ≡ (varies (term_of form) || any_varies (terms_of (map term_of (drop (i + 1) forms))))
varies_step forms i form here is = ap (λ (l : List Form). any_varies (terms_of (map term_of l))) (dropped forms i form here is)

-- what has no column becomes a constant
pub settled_fixed : (term : Term) → varies term ≡ false → settled term ≡ constant (value_in [] term)
settled_fixed (column k) is = absurd cc
settled_fixed (constant value) is = refl
settled_fixed (made kind by of) is = ap (λ (b : Bool). cond b (made kind by (all_settled of)) (constant (made_by by (values_in [] of)))) is

all_settled_map : (terms : List Term) → all_settled (terms_of terms) ≡ terms_of (map settled terms)
all_settled_map [] = refl
all_settled_map (term ∷ terms) = ap (λ (l : Terms). more_terms (settled term) l) (all_settled_map terms)

made_varying : (kind : Kind) (by : Maker) (of : Terms) → any_varies of ≡ true → settled (made kind by of) ≡ made kind by (all_settled of)
made_varying kind by of is = ap (λ (b : Bool). cond b (made kind by (all_settled of)) (constant (made_by by (values_in [] of)))) is

-- of what is made of forms with a column each part is settled
pub settled_made : (kind : Kind) (by : Operation) (of : Vec Form Global) → varies (term_of (shown.Made kind by of)) ≡ true
    → settled (term_of (shown.Made kind by of)) ≡ made kind (maker_of by) (terms_of (map settled (map term_of of.items)))
settled_made kind by of is =
    let parts = map term_of of.items in
    let term = made_term kind by of in
    ap settled term ∙ made_varying kind (maker_of by) (terms_of parts) (sym (ap varies term) ∙ is) ∙ ap (made kind (maker_of by)) (all_settled_map parts)
