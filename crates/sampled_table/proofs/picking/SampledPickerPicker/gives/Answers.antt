use Rattle.std.proofs.Common.{◌≡◌, ◌∙◌, Bool, List, option_map, is_some}
use Rattle.std.proofs.lemmas.Result.{IfOk-weaker}
use Rattle.line_input.specs.Taken.{slots_of}
use Rattle.lp_values.specs.declared.value.Value.{Value}
use Rattle.query_types.specs.Conditions.{filter_of}
use Rattle.row_engine.specs.Rows.{keeps, selected_in}
use Rattle.plan_rows.specs.Picks.{if_kept}
use Rattle.sampled_table.specs.Picks.{row_of}
use Rattle.plan_rows.proofs.Picked.{given_kept}
use Rattle.sampled_table.proofs.picking.SampledPickerPicker.gives.Goals as goal

pub returns : goal.returns
returns c =
    let plan = c.args.self.now.ready.plan in
    let row : List Value = row_of c.args.self.now.pattern.now c.args.self.now.told (record { identity = c.args.identity.now; row = record { number = c.args.number; slots = slots_of c.args.line.now c.args.fields.now; columns = c.args.columns.now } }) in
    let keeps_it = keeps (option_map filter_of plan.condition) row in
    IfOk-weaker c.keeps.result (λ (kept : Bool). kept ≡ keeps_it) (λ (kept : Bool). kept ≡ is_some (if_kept keeps_it (selected_in row plan.items))) (λ kept is. is ∙ given_kept keeps_it (selected_in row plan.items)) c.keeps.ensures.kept
