use Rattle.std.proofs.Common.{◌∙◌, Some, None, ap, sym}
use Rattle.std.proofs.lemmas.Result.{IfOk-weaker}
use Rattle.line_input.specs.Taken.{slots_of}
use Rattle.slot_reading.specs.Slots.{value_of}
use Rattle.plan_rows.proofs.Fields.{field_read, fields_read-none}
use Rattle.plan_rows.proofs.row.field_value.Goals as goal

pub returns-in_default : goal.returns-in_default
returns-in_default c = sym (fields_read-none c.args.readings.now (slots_of c.args.line.now c.args.fields.now) 0 c.args.index (sym c.in_default.ensures))

pub returns-in-None : goal.returns-in-None
returns-in-None c =
    let read = field_read c.args.readings.now c.args.line.now c.args.fields.now c.args.index c.in-Some.reading.now None (sym c.in-Some.ensures) c.in-None.ensures in
    IfOk-weaker c.read_slot.result _ _ (λ value is. is ∙ read) c.read_slot.ensures

pub returns-in-Some-get : goal.returns-in-Some-get
returns-in-Some-get c =
    let read = field_read c.args.readings.now c.args.line.now c.args.fields.now c.args.index c.in-Some.reading.now (Some c.in-Some-get.slot.now) (sym c.in-Some.ensures) c.in-Some-get.ensures in
    IfOk-weaker c.read_slot-in-Some-get.result _ _ (λ value is. is ∙ (ap (value_of c.in-Some.reading.now) c.bytes.ensures ∙ read)) c.read_slot-in-Some-get.ensures
