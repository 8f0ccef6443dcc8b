-- The arguments of a call, as expressions and as trees.
use Rattle.std.proofs.Common.{◌≡◌, ℕ, zero, suc, false, List, [], ◌∷◌, length, map, option_map, refl, ap, arith}
use Rattle.std.specs.List.{slice_get}
use Rattle.grammar.specs.Trees.{trees_of as listed}
use Rattle.query_tree.specs.Views.{tree_of}
use Rattle.query_tree.specs.declared.expression.Expr.{Expr}
use Rattle.query_types.specs.Built.{is_grouping}
use Rattle.query_types.specs.Calls.{is_aggregate}
use Rattle.query_types.specs.Meanings.{count_trees, tree_at}

pub counted : (es : List Expr) → count_trees (listed (map tree_of es)) ≡ length es
counted [] = refl
counted (e ∷ es) = ap suc (counted es)

pub tree_given : (k : ℕ) (es : List Expr) → tree_at k (listed (map tree_of es)) ≡ option_map tree_of (slice_get es k)
tree_given k [] = refl
tree_given zero (e ∷ es) = refl
tree_given (suc k) (e ∷ es) = tree_given k es

pub grouping_one : (name : List ℕ) (es : List Expr) → length es ≡ 1 → is_aggregate name ≡ is_grouping name (listed (map tree_of es))
grouping_one name [] is = absurd (omega arith)
grouping_one name (e ∷ []) is = refl
grouping_one name (e ∷ d ∷ es) is = absurd (omega arith)

pub grouping_other : (name : List ℕ) (es : List Expr) → (length es ≡ 1 → ⊥) → false ≡ is_grouping name (listed (map tree_of es))
grouping_other name [] is = refl
grouping_other name (e ∷ []) is = absurd (is refl)
grouping_other name (e ∷ d ∷ es) is = refl
