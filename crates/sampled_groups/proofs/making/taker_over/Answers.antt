use Rattle.std.proofs.Common.{ℕ, length, option_map, ap, ◌∙◌, refl, subst}
use Rattle.query_types.specs.Conditions.{filter_of}
use Rattle.query_types.specs.declared.plans.Plan.{Plan}
use Rattle.plan_rows.specs.declared.ready.ReadyPlan.{ReadyPlan}
use Rattle.row_steps.specs.Grouped.{HasWidth}
use Rattle.sampled_table.specs.Picks.{sampled_picks}
use Rattle.sampled_table.specs.declared.picking.SampledPicker.{SampledPicker}
use Rattle.sampled_groups.specs.Widths.{sampled_width}
use Rattle.sampled_groups.proofs.making.taker_over.Goals as goal

pub new-requires : goal.new-requires
new-requires c =
    let picker = c.in-Ok.picker in
    let plan = picker.ready.plan in
    let condition = option_map filter_of plan.condition in
    let size = ap (λ (plan : Plan). length plan.items) c.in-Ok.ensures.rows ∙ c.requires.wide in
    subst (λ (n : ℕ). HasWidth (sampled_picks picker.pattern.now picker.told plan.items condition) n) size (sampled_width picker.pattern.now picker.told plan.items condition)

pub invariant_of-result : goal.invariant_of-result
invariant_of-result c = record { none = c.requires.new.none }

pub returns-in-Ok-new-clause-ready : goal.returns-in-Ok-new-clause-ready
returns-in-Ok-new-clause-ready c =
    let made = c.in-Ok-new.ensures in
    record {
      rows = ap (λ (p : SampledPicker). p.ready.plan) made.picker ∙ c.in-Ok.ensures.rows;
      groups = ap (λ (r : ReadyPlan). r.plan) made.plan ∙ c.in-Ok.ensures.groups;
      none = made.holds;
      told_is = ap (λ (p : SampledPicker). p.told) made.picker ∙ c.in-Ok.ensures.told;
      pattern_is = ap (λ (p : SampledPicker). p.pattern.now) made.picker ∙ c.in-Ok.ensures.pattern;
      asked_is = refl;
      new = c.requires.new;
      unopened = refl;
      unrefused = refl;
    }
