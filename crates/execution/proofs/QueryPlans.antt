-- The plan of a query, by whether it has groups.
use Rattle.std.proofs.Common.{◌≡◌, ℤ, Bool, true, false, if◌then◌else◌, ap, ◌∙◌}
use Rattle.std.specs.Prelude.{Result, Ok, Err}
use Rattle.grammar.specs.Trees.{Query}
use Rattle.group_planning.specs.Groups.{Grouped, group_plan_of}
use Rattle.query_types.specs.Built.{is_built}
use Rattle.query_types.specs.declared.fault.TypeFault.{TypeFault}
use Rattle.query_types.specs.declared.fault.TypeFault.TheVariants as F
use Rattle.query_types.specs.declared.table.TableColumns.{TableColumns}
use Rattle.query_types.specs.Meanings.{Answers, followed}
use Rattle.query_types.specs.Planned.{Planned, plan_of}
use Rattle.execution.specs.Plans.{PlannedQuery, of_groups, of_rows, query_plan}

abbrev pub over_rows : Result Planned TypeFault → Result PlannedQuery TypeFault
over_rows planned = followed planned (λ plan. Ok (of_rows plan))

abbrev pub over_groups : Result Grouped TypeFault → Result PlannedQuery TypeFault
over_groups planned = followed planned (λ plan. Ok (of_groups plan))

module _ (table : TableColumns) (moment : ℤ) (q : Query) where
  by_rows : is_built q ≡ true → query_plan table moment q ≡ over_rows (plan_of table moment q)
  by_rows built = ap (λ (b : Bool). if b then over_rows (plan_of table moment q) else over_groups (group_plan_of table moment q)) built

  by_groups : is_built q ≡ false → query_plan table moment q ≡ over_groups (group_plan_of table moment q)
  by_groups built = ap (λ (b : Bool). if b then over_rows (plan_of table moment q) else over_groups (group_plan_of table moment q)) built

  pub planned_rows : (plan : Planned) → is_built q ≡ true → plan_of table moment q ≡ Ok plan → query_plan table moment q ≡ Ok (of_rows plan)
  planned_rows plan built is = by_rows built ∙ ap over_rows is

  pub unplanned_rows : (fault : TypeFault) → is_built q ≡ true → plan_of table moment q ≡ Err fault → query_plan table moment q ≡ Err fault
  unplanned_rows fault built is = by_rows built ∙ ap over_rows is

  pub planned_groups : (plan : Grouped) → is_built q ≡ false → group_plan_of table moment q ≡ Ok plan → query_plan table moment q ≡ Ok (of_groups plan)
  planned_groups plan built is = by_groups built ∙ ap over_groups is

  pub unplanned_groups : (fault : TypeFault) → is_built q ≡ false → group_plan_of table moment q ≡ Err fault → query_plan table moment q ≡ Err fault
  unplanned_groups fault built is = by_groups built ∙ ap over_groups is

-- the fault of one plan, as that of another whose faults it has
pub same_fault : {A B C D : Type 0} (view : A → B) (other : C → D) (first : Result B TypeFault) (second : Result D TypeFault) (fault : TypeFault)
    → ((f : TypeFault) → first ≡ Err f → second ≡ Err f) → Answers view (Err fault) first → Answers other (Err fault) second
same_fault view other first second F.Memory follows is = tt
same_fault view other first second (F.UnknownField at) follows is = follows (F.UnknownField at) is
same_fault view other first second (F.UnknownFunction at) follows is = follows (F.UnknownFunction at) is
same_fault view other first second (F.KindMismatch at) follows is = follows (F.KindMismatch at) is
same_fault view other first second (F.WrongArity at) follows is = follows (F.WrongArity at) is
same_fault view other first second (F.TooFewColumns at) follows is = follows (F.TooFewColumns at) is
same_fault view other first second (F.BadPattern at) follows is = follows (F.BadPattern at) is
same_fault view other first second (F.NotInSelect at) follows is = follows (F.NotInSelect at) is
same_fault view other first second (F.NotGrouped at) follows is = follows (F.NotGrouped at) is
same_fault view other first second (F.NestedAggregate at) follows is = follows (F.NestedAggregate at) is
same_fault view other first second (F.StarWithGroups at) follows is = follows (F.StarWithGroups at) is
