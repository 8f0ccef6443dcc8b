-- Steps along the values of an IN.
use Rattle.std.proofs.Common.{◌≡◌, ℕ, ◌+◌, ◌<◌, Bool, List, [], ◌∷◌, ◌++◌, length, drop, get_or, map, Ok, Err, ◌∙◌, ap}
use Rattle.grammar.specs.Trees.{trees_of as listed}
use Rattle.lp_values.specs.declared.kind.Kind.{Kind}
use Rattle.lp_values.specs.declared.value.Value.{Value}
use Rattle.query_tree.specs.Views.{tree_of}
use Rattle.query_tree.specs.declared.expression.Expr.{Expr}
use Rattle.query_types.specs.declared.fault.TypeFault.{TypeFault}
use Rattle.query_types.specs.declared.table.TableColumns.{TableColumns}
use Rattle.query_types.specs.Meanings.{added, joined}
use Rattle.query_types.proofs.Answering.{joined_one}
use Rattle.query_types.proofs.Forms.{dropped}
use Rattle.senses.specs.Senses.{Sense}
use Rattle.sensing.specs.Sensing.{Named}
use Rattle.sensing.specs.Checked.{fit_sensed, all_fit_sensed}

-- the values of an IN stop at one that has a fault
pub fitting_stops : (wide : Bool) (table : TableColumns) (moment : Value) (aliases : List Named) (kind : Kind) (front : List Sense) (items : List Expr) (i : ℕ) (item : Expr) (fault : TypeFault)
    → i < length items → item ≡ get_or items i item → fit_sensed wide table moment aliases kind (tree_of item) ≡ Err fault
    → joined front (all_fit_sensed wide table moment aliases kind (listed (map tree_of (drop i items)))) ≡ Err fault
fitting_stops wide table moment aliases kind front items i item fault here is found =
    ap (λ rest. joined front (all_fit_sensed wide table moment aliases kind (listed (map tree_of rest)))) (dropped items i item here is)
    ∙ ap (λ r. joined front (added r (all_fit_sensed wide table moment aliases kind (listed (map tree_of (drop (i + 1) items)))))) found

pub fitting_more : (wide : Bool) (table : TableColumns) (moment : Value) (aliases : List Named) (kind : Kind) (front : List Sense) (items : List Expr) (i : ℕ) (item : Expr) (sense : Sense)
    → i < length items → item ≡ get_or items i item → fit_sensed wide table moment aliases kind (tree_of item) ≡ Ok sense
    → joined front (all_fit_sensed wide table moment aliases kind (listed (map tree_of (drop i items)))) ≡ joined (front ++ sense ∷ []) (all_fit_sensed wide table moment aliases kind (listed (map tree_of (drop (i + 1) items))))
fitting_more wide table moment aliases kind front items i item sense here is found =
    ap (λ rest. joined front (all_fit_sensed wide table moment aliases kind (listed (map tree_of rest)))) (dropped items i item here is)
    ∙ ap (λ r. joined front (added r (all_fit_sensed wide table moment aliases kind (listed (map tree_of (drop (i + 1) items)))))) found
    ∙ joined_one front sense (all_fit_sensed wide table moment aliases kind (listed (map tree_of (drop (i + 1) items))))
