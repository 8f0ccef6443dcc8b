use Rattle.std.proofs.Common.{◌≡◌, ◌∙◌, ◌≤◌, ℕ, List, Ok, length, take, ap, sym, subst, FitsSigned, w64}
use Rattle.std.proofs.lemmas.Int.{to_z-of_z}
use Rattle.query_types.specs.declared.alias.Alias.{Alias}
use Rattle.query_types.specs.Parts.{parts_of}
use Rattle.query_types.specs.Planned.{selected, with_aliases}
use Rattle.query_types.proofs.Steps.{kept_front}
use Rattle.query_types.proofs.Whole.{planned_whole}
use Rattle.row_planning.proofs.planning.plan.Goals as goal

pub plan_behind-requires-clause-before : goal.plan_behind-requires-clause-before
plan_behind-requires-clause-before c =
    let all = c.as_slice-2.result.now in
    let kept = kept_front c.args.table.now c.moment_value-now.result c.add_aliases.new.aliases all (parts_of c.args.query.now).items (c.as_slice-2.ensures ∙ c.in_ok-add_aliases-2.ensures) in
    subst (λ (n : ℕ). n ≤ length all) (sym c.len-before.ensures) kept.0

pub plan_behind-requires-clause-all : goal.plan_behind-requires-clause-all
plan_behind-requires-clause-all c =
    let all = c.as_slice-2.result.now in
    let items = (parts_of c.args.query.now).items in
    let is = c.as_slice-2.ensures ∙ c.in_ok-add_aliases-2.ensures in
    let kept = kept_front c.args.table.now c.moment_value-now.result c.add_aliases.new.aliases all items is in
    is ∙ ap (λ l. with_aliases c.args.table.now c.moment_value-now.result l items) (sym (ap (λ n. take n all) c.len-before.ensures ∙ kept.1))

pub returns-clause-plan : goal.returns-clause-plan
returns-clause-plan c =
    let range : FitsSigned w64 c.args.moment = c.ranges.moment in
    planned_whole c.args.table.now c.args.moment c.moment_value-now.result c.args.query.now c.add_aliases.new.aliases c.as_slice-2.result.now c.len-before.result c.in_ok-aliased.aliased c.plan_behind.result (simp to_z-of_z at c.moment_value-now.ensures)
    (c.in_ok-add_aliases.ensures ∙ ap (λ l. with_aliases c.args.table.now c.moment_value-now.result l (parts_of c.args.query.now).aliases) c.new-aliases.ensures)
    (subst (λ (l : List Alias). selected c.args.table.now c.moment_value-now.result (take 0 l) l (parts_of c.args.query.now).aliases ≡ Ok c.in_ok-aliased.aliased) c.as_slice.ensures c.in_ok-aliased.ensures)
    (c.as_slice-2.ensures ∙ c.in_ok-add_aliases-2.ensures) c.len-before.ensures c.plan_behind.ensures.plan
