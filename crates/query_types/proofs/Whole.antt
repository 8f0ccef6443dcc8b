-- The plan of a whole query.
use Rattle.std.proofs.Common.{◌≡◌, ℕ, ℤ, List, [], length, take, Result, Ok, sym, ◌∙◌, ap, subst}
use Rattle.query_tree.specs.Views.{query_of}
use Rattle.query_tree.specs.declared.query.Query.{Query}
use Rattle.query_types.specs.declared.alias.Alias.{Alias}
use Rattle.query_types.specs.declared.fault.TypeFault.{TypeFault}
use Rattle.query_types.specs.Terms.{Term}
use Rattle.lp_values.specs.declared.part.Part.TheVariants.{Both}
use Rattle.lp_values.specs.declared.value.Value.{Value}
use Rattle.slot_reading.specs.Stamps.{stamp_value}
use Rattle.query_types.specs.declared.plans.Plan.{Plan}
use Rattle.query_types.specs.declared.table.TableColumns.{TableColumns}
use Rattle.query_types.specs.Meanings.{Answers, followed}
use Rattle.query_types.specs.Parts.{parts_of}
use Rattle.query_types.specs.Planned.{Planned, planned_in, plan_behind, plan_of, plan_of_parts, selected, with_aliases}
use Rattle.query_types.proofs.Parts.{query_parts}
use Rattle.query_types.proofs.Steps.{kept_front}

pub planned_whole : (table : TableColumns) (number : ℤ) (moment : Value) (q : Query) (using all : List Alias) (size : ℕ) (aliased : List Term) (result : Result Plan TypeFault)
    → moment ≡ stamp_value Both number → using ≡ with_aliases table moment [] (parts_of q).aliases → selected table moment [] using (parts_of q).aliases ≡ Ok aliased
    → all ≡ with_aliases table moment using (parts_of q).items → size ≡ length using
    → Answers planned_in result (plan_behind table moment (take size all) all (parts_of q) aliased) → Answers planned_in result (plan_of table number (query_of q))
planned_whole table number moment q using all size aliased result moment_is using_is aliased_is all_is size_is found =
    let parts = parts_of q in
    let front : take size all ≡ using = ap (λ n. take n all) size_is ∙ (kept_front table moment using all parts.items all_is).1 in
    let whole : plan_of table number (query_of q) ≡ plan_behind table moment (take size all) all parts aliased =
    ap (plan_of table number) (query_parts q)
    ∙ ap (λ m. plan_of_parts table m parts) (sym moment_is)
    ∙ ap (λ u. followed (selected table moment [] u parts.aliases) (plan_behind table moment u (with_aliases table moment u parts.items) parts)) (sym using_is)
    ∙ ap (λ r. followed r (plan_behind table moment using (with_aliases table moment using parts.items) parts)) aliased_is
    ∙ ap (λ l. plan_behind table moment using l parts aliased) (sym all_is)
    ∙ ap (λ u. plan_behind table moment u all parts aliased) (sym front) in
    subst (λ (t : Result Planned TypeFault). Answers planned_in result t) (sym whole) found
