-- Values of forms, read at the lists of their parts.
use Rattle.std.proofs.Common.{◌≡◌, ℕ, Bool, true, false, zero, suc, ◌<◌, ◌≤◌, ◌+◌, List, [], ◌∷◌, length, drop, get_or, map, refl, sym, ap, ◌∙◌, Vec, arith, if◌then◌else◌}
use Rattle.std.specs.declared.alloc.Global.{Global}
use Rattle.lp_values.specs.declared.comparison.Compare.TheVariants as how
use Rattle.lp_values.specs.declared.kind.Kind.{Kind}
use Rattle.lp_values.specs.declared.value.Value.{Value}
use Rattle.lp_values.specs.declared.value.Value.TheVariants.{Null}
use Rattle.lp_values.specs.Comparing.{compared as comparison}
use Rattle.query_types.specs.declared.form.Form.{Form}
use Rattle.query_types.specs.declared.form.Operation.{Operation}
use Rattle.query_types.specs.declared.form.Form.TheViews as shown
use Rattle.query_types.specs.Terms.{maker_of, term_of, terms_of}
use Rattle.query_types.proofs.Forms.{made_term}
use Rattle.row_engine.specs.Rows.{branch_of, case_of, first_of, forms_in, is_yes, made_by, value_in, values_in}

values_map : (row : List Value) (forms : List Form) → values_in row (terms_of (map term_of forms)) ≡ forms_in row forms
values_map row [] = refl
values_map row (form ∷ forms) = ap (λ (vs : List Value). value_in row (term_of form) ∷ vs) (values_map row forms)

-- the value of what is made of forms
pub made_value : (row : List Value) (kind : Kind) (by : Operation) (of : Vec Form Global) → value_in row (term_of (shown.Made kind by of)) ≡ made_by (maker_of by) (forms_in row of.items)
made_value row kind by of = ap (value_in row) (made_term kind by of) ∙ ap (made_by (maker_of by)) (values_map row of.items)

-- the value of the form at a place
pub form_at : (row : List Value) (forms : List Form) (at : ℕ) (form : Form) → at < length forms → form ≡ get_or forms at form → value_in row (term_of form) ≡ get_or (forms_in row forms) at Null
form_at row [] at form here is = absurd (omega arith)
form_at row (f ∷ fs) zero form here is = ap (λ (x : Form). value_in row (term_of x)) is
form_at row (f ∷ fs) (suc at) form here is = form_at row fs at form (omega arith) is

pub past : (row : List Value) (forms : List Form) (at : ℕ) → length forms ≤ at → get_or (forms_in row forms) at Null ≡ Null
past row [] at behind = refl
past row (f ∷ fs) zero behind = absurd (omega arith)
past row (f ∷ fs) (suc at) behind = past row fs at (omega arith)

branch_at : (subject : Value) (values : List Value) (at : ℕ) → suc at < length values
    → branch_of subject (drop at values) ≡ (if is_yes (comparison how.Equal subject (get_or values at Null)) then get_or values (suc at) Null else branch_of subject (drop (suc (suc at)) values))
branch_at subject [] at here = absurd (omega arith)
branch_at subject (v ∷ []) at here = absurd (omega arith)
branch_at subject (v ∷ w ∷ values) zero here = refl
branch_at subject (v ∷ w ∷ values) (suc at) here = branch_at subject (w ∷ values) at (omega arith)

-- a WHEN and its THEN, by whether it compares equal
branch_step : (subject : Value) (values : List Value) (at : ℕ) (b : Bool) → at + 1 < length values → is_yes (comparison how.Equal subject (get_or values at Null)) ≡ b
    → branch_of subject (drop at values) ≡ (if b then get_or values (at + 1) Null else branch_of subject (drop (at + 2) values))
branch_step subject values at b here is =
    let one : suc at ≡ at + 1 = omega arith in
    let two : suc (suc at) ≡ at + 2 = omega arith in
    branch_at subject values at (omega arith) ∙ ap (λ (t : Bool). if t then get_or values (suc at) Null else branch_of subject (drop (suc (suc at)) values)) is
    ∙ ap (λ (n : ℕ). if b then get_or values n Null else branch_of subject (drop (suc (suc at)) values)) one
    ∙ ap (λ (n : ℕ). if b then get_or values (at + 1) Null else branch_of subject (drop n values)) two

branch_end : (subject : Value) (values : List Value) (at : ℕ) → length values ≤ at + 1 → branch_of subject (drop at values) ≡ get_or values at Null
branch_end subject [] zero end = refl
branch_end subject [] (suc at) end = refl
branch_end subject (v ∷ []) zero end = refl
branch_end subject (v ∷ w ∷ values) zero end = absurd (omega arith)
branch_end subject (v ∷ values) (suc at) end = branch_end subject values at (omega arith)

forms_length : (row : List Value) (forms : List Form) → length (forms_in row forms) ≡ length forms
forms_length row [] = refl
forms_length row (f ∷ fs) = ap suc (forms_length row fs)

met : (row : List Value) (subject : Value) (of : List Form) (at : ℕ) (test : Form) (b : Bool) → at < length of → test ≡ get_or of at test → b ≡ is_yes (comparison how.Equal subject (value_in row (term_of test)))
    → is_yes (comparison how.Equal subject (get_or (forms_in row of) at Null)) ≡ b
met row subject of at test b here there is = ap (λ (v : Value). is_yes (comparison how.Equal subject v)) (sym (form_at row of at test here there)) ∙ sym is

-- a WHEN that doesn't compare equal is passed over
pub passed_over : (row : List Value) (subject : Value) (of : List Form) (at : ℕ) (test : Form) (b : Bool) → at + 1 < length of → test ≡ get_or of at test → b ≡ is_yes (comparison how.Equal subject (value_in row (term_of test))) → b ≡ false
    → branch_of subject (drop at (forms_in row of)) ≡ branch_of subject (drop (at + 2) (forms_in row of))
passed_over row subject of at test b here there is not_met = branch_step subject (forms_in row of) at false (omega (arith, forms_length row of)) (met row subject of at test b (omega arith) there is ∙ not_met)

-- of a WHEN that does, THEN is taken
pub taken : (row : List Value) (subject : Value) (of : List Form) (at : ℕ) (test value : Form) (b : Bool) → at + 1 < length of → test ≡ get_or of at test → b ≡ is_yes (comparison how.Equal subject (value_in row (term_of test))) → b ≡ true
    → value ≡ get_or of (at + 1) value → branch_of subject (drop at (forms_in row of)) ≡ value_in row (term_of value)
taken row subject of at test value b here there is is_met then_there =
    branch_step subject (forms_in row of) at true (omega (arith, forms_length row of)) (met row subject of at test b (omega arith) there is ∙ is_met) ∙ sym (form_at row of (at + 1) value here then_there)

-- behind the last WHEN and THEN stands ELSE, or nothing
pub otherwise : (row : List Value) (subject : Value) (of : List Form) (at : ℕ) → length of ≤ at + 1 → branch_of subject (drop at (forms_in row of)) ≡ get_or (forms_in row of) at Null
otherwise row subject of at end = branch_end subject (forms_in row of) at (omega (arith, forms_length row of))

-- a CASE of the value of its first part
pub case_first : (values : List Value) → case_of values ≡ branch_of (get_or values 0 Null) (drop 1 values)
case_first [] = refl
case_first (v ∷ values) = refl

-- what is given of the first part, where NULL gives NULL
pub first_given : (give : Value → Value) → give Null ≡ Null → (values : List Value) → give (get_or values 0 Null) ≡ first_of give values
first_given give none [] = none
first_given give none (v ∷ values) = refl
