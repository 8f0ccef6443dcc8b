-- Forms, read at the lists of their parts.
use Rattle.std.proofs.Common.{◌≡◌, ℕ, suc, ◌<◌, ◌≤◌, ◌+◌, ◌-◌, ◌||◌, List, [], ◌∷◌, length, take, drop, get_or, map, refl, sym, ◌∙◌, ap, Vec, rules, arith, add-one}
use Rattle.std.proofs.Math.Seq.{drop-cons}
use Rattle.std.proofs.lemmas.List.{take_all}
use Rattle.std.specs.declared.alloc.Global.{Global}
use Rattle.lp_values.specs.declared.kind.Kind.{Kind}
use Rattle.query_types.specs.declared.form.Operation.{Operation}
use Rattle.query_types.specs.declared.form.Form.TheViews as shown
use Rattle.query_types.specs.declared.form.Form.{Form, Row_of-Form, end_of-Form, more_of-Form, items-the_row-Form, the_lemmas}
use Rattle.query_types.specs.declared.table.NamedKind.{NamedKind}
use Rattle.query_types.specs.Meanings.{case_kind, kind_meant, sharper}
use Rattle.query_types.specs.Terms.{Term, Terms, made, maker_of, more_terms, term_of, terms_in, terms_of, has_column, have_column}

pub terms_map : {m : _} (all : Row_of-Form m) → terms_in all ≡ terms_of (map term_of (items-the_row-Form m all))
terms_map end_of-Form = refl
terms_map (more_of-Form form rest) = ap (λ (l : Terms). more_terms (term_of form) l) (terms_map rest)

pub made_term : (kind : Kind) (by : Operation) (of : Vec Form Global) → term_of (shown.Made kind by of) ≡ made kind (maker_of by) (terms_of (map term_of of.items))
made_term kind by of = search (rules, the_lemmas, terms_map)

-- what is left begins with the one at this place
pub dropped : {A : Type 0} (xs : List A) (i : ℕ) (x : A) → i < length xs → x ≡ get_or xs i x → drop i xs ≡ x ∷ drop (i + 1) xs
dropped xs i x here is = rw add-one (drop-cons xs i x here ∙ ap (λ y. y ∷ drop (suc i) xs) (sym is))

pub column_step : (k : ℕ) (forms : List Form) (i : ℕ) (form : Form) → i < length forms → form ≡ get_or forms i form
    → have_column k (terms_of (map term_of (drop i forms))) ≡ (has_column k (term_of form) || have_column k (terms_of (map term_of (drop (i + 1) forms))))
column_step k forms i form here is = ap (λ (l : List Form). have_column k (terms_of (map term_of l))) (dropped forms i form here is)

pub kind_step : (columns : List NamedKind) (kind : Kind) (parts : List Form) (value : Form) → 2 ≤ length parts → value ≡ get_or parts 1 value
    → case_kind columns kind (map term_of parts) ≡ case_kind columns (sharper kind (kind_meant columns (term_of value))) (map term_of (take (length parts - 2) (drop 2 parts)))
kind_step columns kind [] value size is = absurd (omega arith)
kind_step columns kind (t ∷ []) value size is = absurd (omega arith)
kind_step columns kind (t ∷ v ∷ rest) value size is =
    let whole : take (length (t ∷ v ∷ rest) - 2) rest ≡ rest = take_all (length (t ∷ v ∷ rest) - 2) rest (omega arith) in
    ap (λ (f : Form). case_kind columns (sharper kind (kind_meant columns (term_of f))) (map term_of rest)) (sym is)
    ∙ ap (λ (l : List Form). case_kind columns (sharper kind (kind_meant columns (term_of value))) (map term_of l)) (sym whole)
