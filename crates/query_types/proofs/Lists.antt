-- Lists of expressions, of branches and of items.
use Rattle.std.proofs.Common.{◌≡◌, ℕ, ◌<◌, ◌+◌, Bool, true, false, not, ◌&&◌, List, [], ◌∷◌, length, drop, get_or, map, Option, Some, None, option_map, refl, ap, ◌∙◌, Box, rules}
use Rattle.std.specs.declared.alloc.Global.{Global}
use Rattle.std.specs.List.{list_all}
use Rattle.grammar.specs.Trees.{otherwise_of}
use Rattle.grammar.specs.Trees.{Tree as tree}
use Rattle.grammar.specs.Trees.{trees_of as listed}
use Rattle.grammar.specs.Trees.{whens_of as branched}
use Rattle.query_tree.specs.Views.{tree_of, trees_of, whens_of, when_of, item_of}
use Rattle.query_tree.specs.declared.expression.Expr.TheViews as shown
use Rattle.query_tree.specs.declared.expression.Expr.{Expr, the_lemmas}
use Rattle.query_tree.specs.declared.expression.ExprList.{ExprList}
use Rattle.query_tree.specs.declared.expression.When.{When}
use Rattle.query_tree.specs.declared.expression.WhenList.{WhenList}
use Rattle.query_tree.specs.declared.query.Item.{Item}
use Rattle.query_tree.proofs.Lists.{call_tree, whens_list}
use Rattle.query_types.specs.Built.{is_grouping, is_plain, is_plain_else, are_plain, are_plain_branches, are_plain_items}
use Rattle.query_types.proofs.Forms.{dropped}

pub plain_items : (is : List Item) → list_all (λ (i : Item). is_plain (tree_of i.value)) is ≡ are_plain_items (map item_of is)
plain_items [] = refl
plain_items (i ∷ is) = ap (λ (b : Bool). is_plain (tree_of i.value) && b) (plain_items is)

pub plain_step : (es : List Expr) (i : ℕ) (e : Expr) → i < length es → e ≡ get_or es i e
    → are_plain (listed (map tree_of (drop i es))) ≡ (is_plain (tree_of e) && are_plain (listed (map tree_of (drop (i + 1) es))))
plain_step es i e here is = ap (λ (l : List Expr). are_plain (listed (map tree_of l))) (dropped es i e here is)

pub plain_branch_step : (ws : List When) (i : ℕ) (w : When) → i < length ws → w ≡ get_or ws i w
    → are_plain_branches (branched (map when_of (drop i ws))) ≡ (is_plain (tree_of w.test) && is_plain (tree_of w.value) && are_plain_branches (branched (map when_of (drop (i + 1) ws))))
plain_branch_step ws i w here is = ap (λ (l : List When). are_plain_branches (branched (map when_of l))) (dropped ws i w here is)

-- a CASE, read at the list of its branches
pub case_tree : (at : ℕ) (subject : Box Expr Global) (branches : WhenList) (otherwise : Option (Box Expr Global))
    → tree_of (shown.Case at subject branches otherwise) ≡ tree.Case at (tree_of subject.value) (branched (whens_of branches)) (otherwise_of (option_map (λ b. tree_of b.value) otherwise))
case_tree at subject branches None = search (rules, the_lemmas, whens_list)
case_tree at subject branches (Some value) = search (rules, the_lemmas, whens_list)

-- a call, read at the list of its arguments
pub called_tree : (at : ℕ) (name : List ℕ) (arguments : ExprList) → tree_of (shown.Call at name arguments) ≡ tree.Call at name (listed (trees_of arguments))
called_tree at name arguments = call_tree at name arguments

plain_call : (at : ℕ) (name : List ℕ) (arguments : ExprList) → is_plain (tree_of (shown.Call at name arguments)) ≡ (not (is_grouping name (listed (trees_of arguments))) && are_plain (listed (trees_of arguments)))
plain_call at name arguments = ap is_plain (call_tree at name arguments)

-- a call of an aggregate isn't plain
pub grouping_call : (at : ℕ) (name : List ℕ) (arguments : ExprList) → is_grouping name (listed (trees_of arguments)) ≡ true → is_plain (tree_of (shown.Call at name arguments)) ≡ false
grouping_call at name arguments is = plain_call at name arguments ∙ ap (λ (b : Bool). not b && are_plain (listed (trees_of arguments))) is

-- another is where its arguments are
pub other_call : (at : ℕ) (name : List ℕ) (arguments : ExprList) → is_grouping name (listed (trees_of arguments)) ≡ false → is_plain (tree_of (shown.Call at name arguments)) ≡ are_plain (listed (trees_of arguments))
other_call at name arguments is = plain_call at name arguments ∙ ap (λ (b : Bool). not b && are_plain (listed (trees_of arguments))) is

-- a CASE is where each of its parts is
pub plain_case : (at : ℕ) (subject : Box Expr Global) (branches : WhenList) (otherwise : Option (Box Expr Global)) (b d : Bool)
    → is_plain (tree_of subject.value) ≡ b → are_plain_branches (branched (whens_of branches)) ≡ d
    → is_plain (tree_of (shown.Case at subject branches otherwise)) ≡ (b && d && is_plain_else (otherwise_of (option_map (λ x. tree_of x.value) otherwise)))
plain_case at subject branches otherwise b d one two = ap is_plain (case_tree at subject branches otherwise)
    ∙ ap (λ (x : Bool). x && are_plain_branches (branched (whens_of branches)) && is_plain_else (otherwise_of (option_map (λ x. tree_of x.value) otherwise))) one
    ∙ ap (λ (x : Bool). b && x && is_plain_else (otherwise_of (option_map (λ x. tree_of x.value) otherwise))) two
