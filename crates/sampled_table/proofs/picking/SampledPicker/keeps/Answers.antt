use Rattle.std.proofs.Common.{◌∙◌, List, length, option_map, arith}
use Rattle.line_input.specs.Taken.{slots_of}
use Rattle.lp_values.specs.declared.value.Value.{Value}
use Rattle.query_types.specs.Conditions.{filter_of}
use Rattle.plan_rows.proofs.Picked.{kept_same}
use Rattle.sampled_table.specs.Picks.{row_of}
use Rattle.sampled_table.proofs.Steps.{row_length}
use Rattle.sampled_table.proofs.picking.SampledPicker.keeps.Goals as goal

pub returns-clause-kept : goal.returns-clause-kept
returns-clause-kept c =
    let ready = c.args.self.now.ready in
    let condition = option_map filter_of ready.plan.condition in
    let row : List Value = row_of c.args.self.now.pattern.now c.args.self.now.told (record { identity = c.args.identity.now; row = record { number = c.args.number; slots = slots_of c.args.line.now c.args.fields.now; columns = c.args.columns.now } }) in
    let size = row_length c.args.self.now.pattern.now c.args.self.now.told (record { identity = c.args.identity.now; row = record { number = c.args.number; slots = slots_of c.args.line.now c.args.fields.now; columns = c.args.columns.now } }) in
    let fits = c.args.self.now.fits in
    c.in_ok-is_kept.ensures ∙ kept_same (length ready.plan.used) ready.columns.asked ready.columns.rest ready.plan.items condition row c.args.values.now c.read_columns.new.values
    (omega arith) c.requires.room ready.parted c.in_ok-read_columns.ensures
