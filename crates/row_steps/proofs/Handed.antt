-- Groups that are handed on, one after the other.
use Rattle.std.proofs.Common.{◌≡◌, ◌+◌, ◌<◌, ℕ, List, [], ◌∷◌, ◌++◌, length, take, drop, get_or, map, filter, sym, ◌∙◌, ap, refl, Bool, true, false, option_map, take-append-drop}
use Rattle.std.proofs.lemmas.List.{take_more, drop_more, map-append}
use Rattle.std.proofs.lemmas.List.Elements.{filter-append}
use Rattle.lp_values.specs.declared.value.Value.{Value}
use Rattle.lp_values.specs.declared.group.GroupRow.{GroupRow}
use Rattle.query_types.specs.Conditions.{filter_of}
use Rattle.query_types.specs.declared.plans.Plan.{Plan}
use Rattle.row_engine.specs.Rows.{keeps, selected_in}
use Rattle.row_steps.specs.Grouped.{group_values, group_output}

-- the output rows of two lists of groups
pub output_append : (plan : Plan) (xs ys : List GroupRow) → group_output plan (xs ++ ys) ≡ group_output plan xs ++ group_output plan ys
output_append plan xs ys =
    let kept : List Value → Bool = keeps (option_map filter_of plan.condition) in
    let select : List Value → List Value = λ row. selected_in row plan.items in
    ap (λ (t : List (List Value)). map select (filter kept t)) (map-append group_values xs ys)
    ∙ (ap (map select) (filter-append kept (map group_values xs) (map group_values ys))
    ∙ map-append select (filter kept (map group_values xs)) (filter kept (map group_values ys)))

-- a group that HAVING keeps
pub output_one : (plan : Plan) (group : GroupRow) (row : List Value) → keeps (option_map filter_of plan.condition) (group_values group) ≡ true → row ≡ selected_in (group_values group) plan.items
    → group_output plan (group ∷ []) ≡ row ∷ []
output_one plan group row kept is = rw kept (ap (λ (t : List Value). t ∷ []) (sym is))

-- any other group
pub output_none : (plan : Plan) (group : GroupRow) → keeps (option_map filter_of plan.condition) (group_values group) ≡ false → group_output plan (group ∷ []) ≡ []
output_none plan group dropped = rw dropped refl

-- the output rows of one group more
pub output_more : (plan : Plan) (groups : List GroupRow) (i : ℕ) (group d : GroupRow) → i < length groups → group ≡ get_or groups i d
    → group_output plan (take i groups) ++ group_output plan (group ∷ []) ≡ group_output plan (take (i + 1) groups)
output_more plan groups i group d within is =
    sym (output_append plan (take i groups) (group ∷ []))
    ∙ ap (group_output plan) (ap (λ (g : GroupRow). take i groups ++ g ∷ []) is ∙ sym (take_more groups i d within))

-- the output rows of all groups, of which this one is in turn
pub output_split : (plan : Plan) (groups : List GroupRow) (i : ℕ) (group d : GroupRow) → i < length groups → group ≡ get_or groups i d
    → group_output plan (take i groups) ++ (group_output plan (group ∷ []) ++ group_output plan (drop (i + 1) groups)) ≡ group_output plan groups
output_split plan groups i group d within is =
    let here : group ∷ drop (i + 1) groups ≡ drop i groups = ap (λ (g : GroupRow). g ∷ drop (i + 1) groups) is ∙ sym (drop_more groups i d within) in
    ap (λ (t : List (List Value)). group_output plan (take i groups) ++ t) (sym (output_append plan (group ∷ []) (drop (i + 1) groups)) ∙ ap (group_output plan) here)
    ∙ (sym (output_append plan (take i groups) (drop i groups)) ∙ ap (group_output plan) (take-append-drop i groups))
