use Rattle.std.proofs.Common.{ℕ, option_map, subst}
use Rattle.query_types.specs.Conditions.{filter_of}
use Rattle.plan_rows.specs.Picks.{plan_picks}
use Rattle.row_steps.specs.Grouped.{HasWidth}
use Rattle.row_steps.specs.Widths.{plan_width}
use Rattle.row_steps.proofs.gathering.plan_groups.Goals as goal

pub new-requires : goal.new-requires
new-requires c =
    let plan = c.args.picker.ready.plan in
    let condition = option_map filter_of plan.condition in
    subst (λ (n : ℕ). HasWidth (plan_picks c.args.picker.readings plan.items condition) n) c.requires (plan_width c.args.picker.readings plan.items condition)
