-- Names of CASEs.
use Rattle.std.proofs.Common.{◌≡◌, ℕ, List, ◌++◌, Option, option_map, ◌∙◌, ap, codes, append_assoc, Box}
use Rattle.std.specs.declared.alloc.Global.{Global}
use Rattle.grammar.specs.Trees.{otherwise_of}
use Rattle.grammar.specs.Trees.{whens_of as branched}
use Rattle.query_tree.specs.Views.{tree_of, whens_of}
use Rattle.query_tree.specs.declared.expression.Expr.{Expr}
use Rattle.query_tree.specs.declared.expression.Expr.TheViews as shown
use Rattle.query_tree.specs.declared.expression.WhenList.{WhenList}
use Rattle.query_types.specs.declared.alias.Alias.{Alias}
use Rattle.query_types.specs.declared.table.TableColumns.{TableColumns}
use Rattle.query_types.specs.Names.{spelled, branches_spelled, else_spelled}
use Rattle.query_types.proofs.Lists.{case_tree}

-- a text that gained a part, and another
pub more : (to a b t u : List ℕ) → t ≡ to ++ a → u ≡ t ++ b → u ≡ to ++ (a ++ b)
more to a b t u one two = two ∙ ap (λ l. l ++ b) one ∙ append_assoc to a b

-- a CASE as the name of its column
pub case_spelled : (table : TableColumns) (aliases : List Alias) (at : ℕ) (subject : Box Expr Global) (branches : WhenList) (otherwise o : Option (Box Expr Global)) → otherwise ≡ o
    → spelled table aliases (tree_of (shown.Case at subject branches otherwise))
    ≡ codes "CASE " ++ spelled table aliases (tree_of subject.value) ++ branches_spelled table aliases (branched (whens_of branches)) ++ else_spelled table aliases (otherwise_of (option_map (λ b. tree_of b.value) o)) ++ codes " END"
case_spelled table aliases at subject branches otherwise o which =
    ap (spelled table aliases) (case_tree at subject branches otherwise)
    ∙ ap (λ o. codes "CASE " ++ spelled table aliases (tree_of subject.value) ++ branches_spelled table aliases (branched (whens_of branches)) ++ else_spelled table aliases (otherwise_of (option_map (λ b. tree_of b.value) o)) ++ codes " END") which
