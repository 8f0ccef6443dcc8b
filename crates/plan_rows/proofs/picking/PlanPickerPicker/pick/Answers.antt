use Rattle.std.proofs.Common.{◌∙◌, List, sym, length, option_map, arith}
use Rattle.line_input.specs.Taken.{slots_of}
use Rattle.lp_values.specs.declared.value.Value.{Value}
use Rattle.query_types.specs.Conditions.{filter_of}
use Rattle.row_engine.specs.Rows.{keeps, selected_in}
use Rattle.plan_rows.proofs.Picked.{picks_none, picks_some, row_length}
use Rattle.plan_rows.specs.Picks.{table_row}
use Rattle.plan_rows.proofs.picking.PlanPickerPicker.pick.Goals as goal

pub returns-then-not-is_kept : goal.returns-then-not-is_kept
returns-then-not-is_kept c =
    let plan = c.args.self.now.ready.plan in
    let row : List Value = table_row c.args.self.now.readings (record { identity = c.args.identity.now; row = record { number = c.args.number; slots = slots_of c.args.line.now c.args.fields.now; columns = c.args._columns.now } }) in
    picks_none (keeps (option_map filter_of plan.condition) row) (selected_in row plan.items) (sym c.in_ok-is_kept.ensures.kept ∙ c.if-not-is_kept.true)

pub returns : goal.returns
returns c =
    let ready = c.args.self.now.ready in
    let row : List Value = table_row c.args.self.now.readings (record { identity = c.args.identity.now; row = record { number = c.args.number; slots = slots_of c.args.line.now c.args.fields.now; columns = c.args._columns.now } }) in
    let size = row_length c.args.self.now.readings (record { identity = c.args.identity.now; row = record { number = c.args.number; slots = slots_of c.args.line.now c.args.fields.now; columns = c.args._columns.now } }) in
    let fits = c.args.self.now.fits in
    picks_some (length ready.plan.used) ready.columns.asked ready.columns.rest ready.plan.items (option_map filter_of ready.plan.condition) row c.make_room.new.values c.keeps.new.values c.read_columns.new.values c.select.new.row
    (omega arith) (c.in_ok-make_room.ensures ∙ c.len.ensures) ready.parted c.in_ok-is_kept.ensures.read (sym c.in_ok-is_kept.ensures.kept ∙ c.if-not-is_kept.false) c.in_ok-read_columns.ensures c.in_ok-select.ensures
