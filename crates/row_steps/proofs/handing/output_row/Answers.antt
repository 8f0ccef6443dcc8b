use Rattle.std.proofs.Common.{◌∙◌, List, sym, ap, option_map}
use Rattle.lp_values.specs.declared.value.Value.{Value}
use Rattle.query_types.specs.Conditions.{filter_of}
use Rattle.row_engine.specs.Rows.{keeps, selected_in}
use Rattle.row_steps.proofs.Handed.{output_one, output_none}
use Rattle.row_steps.proofs.handing.output_row.Goals as goal

pub returns-then-not-is_kept : goal.returns-then-not-is_kept
returns-then-not-is_kept c =
    let plan = c.args.plan.now.plan in
    output_none plan c.args.group (ap (keeps (option_map filter_of plan.condition)) (sym c.in_ok-values.ensures) ∙ (sym c.in_ok-is_kept.ensures ∙ c.if-not-is_kept.true))

pub returns : goal.returns
returns c =
    let plan = c.args.plan.now.plan in
    output_one plan c.args.group c.select.new.row (ap (keeps (option_map filter_of plan.condition)) (sym c.in_ok-values.ensures) ∙ (sym c.in_ok-is_kept.ensures ∙ c.if-not-is_kept.false))
    (c.in_ok-select.ensures ∙ ap (λ (values : List Value). selected_in values plan.items) c.in_ok-values.ensures)
