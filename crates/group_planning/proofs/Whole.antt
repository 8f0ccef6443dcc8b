-- The plan of a query, from its parts.
use Rattle.std.proofs.Common.{◌≡◌, ℤ, Bool, List, Result, sym, ◌∙◌, ap}
use Rattle.lp_values.specs.declared.part.Part.TheVariants.{Both}
use Rattle.lp_values.specs.declared.value.Value.{Value}
use Rattle.slot_reading.specs.Stamps.{stamp_value}
use Rattle.query_tree.specs.Views.{query_of}
use Rattle.query_tree.specs.declared.query.Query.{Query}
use Rattle.query_types.specs.declared.fault.TypeFault.{TypeFault}
use Rattle.query_types.specs.declared.table.TableColumns.{TableColumns}
use Rattle.query_types.specs.Meanings.{followed}
use Rattle.query_types.specs.Parts.{parts_of}
use Rattle.query_types.proofs.Parts.{query_parts}
use Rattle.senses.specs.Clauses.{Clauses}
use Rattle.sensing.specs.Sensing.{Named}
use Rattle.judging.specs.Asked.{is_grouped}
use Rattle.group_planning.specs.Clauses.{clauses_sensed, using_named, with_all_named}
use Rattle.group_planning.specs.Groups.{group_plan_of, groups_behind, groups_of_parts}

-- the plan of a query is that of its parts
pub whole : (table : TableColumns) (number : ℤ) (moment : Value) (q : Query) (grouped : Bool) (using all : List Named) (r : Result Clauses TypeFault) → moment ≡ stamp_value Both number → grouped ≡ is_grouped (query_of q)
    → using ≡ using_named table moment (parts_of q) → all ≡ with_all_named table moment using (parts_of q).items
    → clauses_sensed table moment (parts_of q) using all grouped ≡ r → group_plan_of table number (query_of q) ≡ followed r (groups_behind grouped table moment (parts_of q))
whole table number moment q grouped using all r moment_is grouped_is using_is all_is found =
    let parts = parts_of q in
    ap (group_plan_of table number) (query_parts q)
    ∙ ap (λ (b : Bool). groups_of_parts b table (stamp_value Both number) parts) (sym (grouped_is ∙ ap is_grouped (query_parts q)))
    ∙ ap (λ (m : Value). groups_of_parts grouped table m parts) (sym moment_is)
    ∙ ap (λ u. followed (clauses_sensed table moment parts u (with_all_named table moment u parts.items) grouped) (groups_behind grouped table moment parts)) (sym using_is)
    ∙ ap (λ l. followed (clauses_sensed table moment parts using l grouped) (groups_behind grouped table moment parts)) (sym all_is)
    ∙ ap (λ r. followed r (groups_behind grouped table moment parts)) found
