use Rattle.std.proofs.Common.{◌∙◌, ap, sym, option_map}
use Rattle.line_input.specs.Taken.{slot_bytes, slots_of}
use Rattle.log_reading.specs.Found.{held}
use Rattle.log_reading.proofs.Founds.{field_at}
use Rattle.column_kinds.specs.Fields.{field_in}
use Rattle.column_kinds.proofs.fields.field_in.Goals as goal

pub returns-in-Some : goal.returns-in-Some
returns-in-Some c =
    let line = c.args.line.now in
    c.held.ensures ∙ (ap (λ slot. held (option_map (slot_bytes line) slot)) c.get.ensures ∙ (sym (field_at line c.args.fields.now c.in-Some.place) ∙ ap (field_in (slots_of line c.args.fields.now)) (sym c.in-Some.is)))
