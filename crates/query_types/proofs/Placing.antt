-- Forms that are equal part by part, and the places of expressions one after another.
use Rattle.std.proofs.Common.{◌≡◌, ℕ, ◌<◌, ◌≤◌, ◌+◌, ◌-◌, ◌==◌, ◌&&◌, false, List, [], ◌∷◌, ◌++◌, length, take, drop, get_or, map, Result, Ok, Err, refl, sym, ◌∙◌, ap, arith, rules}
use Rattle.std.proofs.lemmas.List.{append-nil, take_all}
use Rattle.grammar.specs.Trees.{Tree, place_of}
use Rattle.query_tree.specs.Views.{tree_of}
use Rattle.query_tree.specs.declared.expression.Expr.{Expr}
use Rattle.query_types.specs.declared.fault.TypeFault.{TypeFault}
use Rattle.query_types.specs.declared.form.Form.{Form}
use Rattle.query_types.specs.Meanings.{added, joined}
use Rattle.query_types.specs.Orders.{order_places, place_among, same_term, same_terms}
use Rattle.query_types.specs.Terms.{Term, Terms, no_terms, term_of, terms_of}
use Rattle.query_types.proofs.Answering.{joined_one}
use Rattle.query_types.proofs.Forms.{dropped}

-- forms as terms
abbrev parts : List Form → Terms
parts forms = terms_of (map term_of forms)

pub same_step : (items rest : List Form) (i : ℕ) (part first : Form) → i < length items → part ≡ get_or items i part → 1 ≤ length rest → first ≡ get_or rest 0 first
    → same_terms (terms_of (map term_of (drop i items))) (terms_of (map term_of rest))
    ≡ (same_term (term_of part) (term_of first) && same_terms (terms_of (map term_of (drop (i + 1) items))) (terms_of (map term_of (take (length rest - 1) (drop 1 rest)))))
same_step items [] i part first here is size at = absurd (omega arith)
same_step items (r ∷ rest) i part first here is size at =
    let whole : take (length (r ∷ rest) - 1) rest ≡ rest = take_all (length (r ∷ rest) - 1) rest (omega arith) in
    ap (λ (l : List Form). same_terms (parts l) (parts (r ∷ rest))) (dropped items i part here is)
    ∙ ap (λ (f : Form). same_term (term_of part) (term_of f) && same_terms (parts (drop (i + 1) items)) (parts rest)) (sym at)
    ∙ ap (λ (l : List Form). same_term (term_of part) (term_of first) && same_terms (parts (drop (i + 1) items)) (parts l)) (sym whole)

-- where the one list ends first they aren't equal
pub same_short : (items rest : List Form) (i : ℕ) (part : Form) → i < length items → part ≡ get_or items i part → length rest ≡ 0
    → same_terms (terms_of (map term_of (drop i items))) (terms_of (map term_of rest)) ≡ false
same_short items [] i part here is none = ap (λ (l : List Form). same_terms (parts l) no_terms) (dropped items i part here is)
same_short items (r ∷ rest) i part here is none = absurd (omega arith)

-- at the end of the one list the other has to end too
pub same_end : (rest : List Form) → same_terms no_terms (terms_of (map term_of rest)) ≡ (length rest == 0)
same_end [] = refl
same_end (r ∷ rest) = search (rules, arith)

module _ (items : List Term) where
  -- without meanings there are no places
  none_placed : (es : List Tree) → order_places items es [] ≡ Ok []
  none_placed [] = refl
  none_placed (e ∷ es) = refl

  pub places_out : (front : List ℕ) (es : List Tree) (rest : List Term) → length rest ≡ 0 → joined front (order_places items es rest) ≡ Ok front
  places_out front es [] none = ap (joined front) (none_placed es) ∙ ap Ok (append-nil front)
  places_out front es (r ∷ rest) none = absurd (omega arith)

  -- the place of the next expression, or why it has none
  pub places_step : (front : List ℕ) (es : List Expr) (rest : List Term) (i : ℕ) (e : Expr) (term : Term) (r : Result ℕ TypeFault) → i < length es → e ≡ get_or es i e → 1 ≤ length rest → term ≡ get_or rest 0 term
      → place_among items term (place_of (tree_of e)) ≡ r
      → joined front (order_places items (map tree_of (drop i es)) rest) ≡ joined front (added r (order_places items (map tree_of (drop (i + 1) es)) (take (length rest - 1) (drop 1 rest))))
  places_step front es [] i e term r here is size at found = absurd (omega arith)
  places_step front es (x ∷ rest) i e term r here is size at found =
      let whole : take (length (x ∷ rest) - 1) rest ≡ rest = take_all (length (x ∷ rest) - 1) rest (omega arith) in
      ap (λ (l : List Expr). joined front (order_places items (map tree_of l) (x ∷ rest))) (dropped es i e here is)
      ∙ ap (λ (t : Term). joined front (added (place_among items t (place_of (tree_of e))) (order_places items (map tree_of (drop (i + 1) es)) rest))) (sym at)
      ∙ ap (λ p. joined front (added p (order_places items (map tree_of (drop (i + 1) es)) rest))) found
      ∙ ap (λ l. joined front (added r (order_places items (map tree_of (drop (i + 1) es)) l))) (sym whole)

  pub places_more : (front : List ℕ) (es : List Expr) (rest : List Term) (i : ℕ) (e : Expr) (term : Term) (place : ℕ) → i < length es → e ≡ get_or es i e → 1 ≤ length rest → term ≡ get_or rest 0 term
      → place_among items term (place_of (tree_of e)) ≡ Ok place
      → joined front (order_places items (map tree_of (drop i es)) rest) ≡ joined (front ++ place ∷ []) (order_places items (map tree_of (drop (i + 1) es)) (take (length rest - 1) (drop 1 rest)))
  places_more front es rest i e term place here is size at found =
      places_step front es rest i e term (Ok place) here is size at found ∙ joined_one front place _
