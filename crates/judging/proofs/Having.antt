-- Which expressions have an aggregate, one part at a time.
use Rattle.std.proofs.Common.{◌≡◌, ℕ, ◌<◌, ◌+◌, Bool, true, false, ◌||◌, List, [], ◌∷◌, length, drop, get_or, map, Option, option_map, refl, ap, ◌∙◌, Box, arith}
use Rattle.std.specs.declared.alloc.Global.{Global}
use Rattle.std.specs.List.{list_any}
use Rattle.grammar.specs.Trees.{otherwise_of}
use Rattle.grammar.specs.Trees.{trees_of as listed}
use Rattle.grammar.specs.Trees.{whens_of as branched}
use Rattle.query_tree.specs.Views.{tree_of, trees_of, whens_of, when_of, item_of}
use Rattle.query_tree.specs.declared.expression.Expr.TheViews as shown
use Rattle.query_tree.specs.declared.expression.Expr.{Expr}
use Rattle.query_tree.specs.declared.expression.ExprList.{ExprList}
use Rattle.query_tree.specs.declared.expression.When.{When}
use Rattle.query_tree.specs.declared.expression.WhenList.{WhenList}
use Rattle.query_tree.specs.declared.query.Item.{Item}
use Rattle.query_types.specs.Calls.{is_counting}
use Rattle.query_types.proofs.Forms.{dropped}
use Rattle.query_types.proofs.Lists.{called_tree, case_tree}
use Rattle.judging.specs.Asked.{branches_have, else_has, has_aggregate, have_aggregate, is_counting_call, items_have}

pub items_listed : (is : List Item) → list_any (λ (i : Item). has_aggregate (tree_of i.value)) is ≡ items_have (map item_of is)
items_listed [] = refl
items_listed (i ∷ is) = ap (λ (b : Bool). has_aggregate (tree_of i.value) || b) (items_listed is)

pub counting_one : (name : List ℕ) (es : List Expr) → length es ≡ 1 → is_counting name ≡ is_counting_call name (listed (map tree_of es))
counting_one name [] is = absurd (omega arith)
counting_one name (e ∷ []) is = refl
counting_one name (e ∷ d ∷ es) is = absurd (omega arith)

pub counting_other : (name : List ℕ) (es : List Expr) → (length es ≡ 1 → ⊥) → false ≡ is_counting_call name (listed (map tree_of es))
counting_other name [] is = refl
counting_other name (e ∷ []) is = absurd (is refl)
counting_other name (e ∷ d ∷ es) is = refl

pub have_step : (es : List Expr) (i : ℕ) (e : Expr) → i < length es → e ≡ get_or es i e
    → have_aggregate (listed (map tree_of (drop i es))) ≡ (has_aggregate (tree_of e) || have_aggregate (listed (map tree_of (drop (i + 1) es))))
have_step es i e here is = ap (λ (l : List Expr). have_aggregate (listed (map tree_of l))) (dropped es i e here is)

pub branch_step : (ws : List When) (i : ℕ) (w : When) → i < length ws → w ≡ get_or ws i w
    → branches_have (branched (map when_of (drop i ws))) ≡ (has_aggregate (tree_of w.test) || has_aggregate (tree_of w.value) || branches_have (branched (map when_of (drop (i + 1) ws))))
branch_step ws i w here is = ap (λ (l : List When). branches_have (branched (map when_of l))) (dropped ws i w here is)

has_call : (at : ℕ) (name : List ℕ) (arguments : ExprList) → has_aggregate (tree_of (shown.Call at name arguments)) ≡ (is_counting_call name (listed (trees_of arguments)) || have_aggregate (listed (trees_of arguments)))
has_call at name arguments = ap has_aggregate (called_tree at name arguments)

-- a call of an aggregate has one
pub counting_has : (at : ℕ) (name : List ℕ) (arguments : ExprList) → is_counting_call name (listed (trees_of arguments)) ≡ true → has_aggregate (tree_of (shown.Call at name arguments)) ≡ true
counting_has at name arguments is = has_call at name arguments ∙ ap (λ (b : Bool). b || have_aggregate (listed (trees_of arguments))) is

-- another has one where its arguments have
pub other_has : (at : ℕ) (name : List ℕ) (arguments : ExprList) → is_counting_call name (listed (trees_of arguments)) ≡ false → has_aggregate (tree_of (shown.Call at name arguments)) ≡ have_aggregate (listed (trees_of arguments))
other_has at name arguments is = has_call at name arguments ∙ ap (λ (b : Bool). b || have_aggregate (listed (trees_of arguments))) is

-- a CASE has one where one of its parts has
pub case_has : (at : ℕ) (subject : Box Expr Global) (branches : WhenList) (otherwise : Option (Box Expr Global)) (b d : Bool)
    → has_aggregate (tree_of subject.value) ≡ b → branches_have (branched (whens_of branches)) ≡ d
    → has_aggregate (tree_of (shown.Case at subject branches otherwise)) ≡ (b || d || else_has (otherwise_of (option_map (λ x. tree_of x.value) otherwise)))
case_has at subject branches otherwise b d one two = ap has_aggregate (case_tree at subject branches otherwise)
    ∙ ap (λ (x : Bool). x || branches_have (branched (whens_of branches)) || else_has (otherwise_of (option_map (λ x. tree_of x.value) otherwise))) one
    ∙ ap (λ (x : Bool). b || x || else_has (otherwise_of (option_map (λ x. tree_of x.value) otherwise))) two
