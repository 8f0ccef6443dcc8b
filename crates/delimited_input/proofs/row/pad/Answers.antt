use Rattle.std.proofs.Common.{◌-◌, ◌++◌, ◌∷◌, [], None, replicate, sym, ◌∙◌, length, ap, arith}
use Rattle.std.proofs.lemmas.List.{length_push, map-append}
use Rattle.line_input.specs.declared.slot.Slot.TheVariants.{Absent}
use Rattle.line_input.specs.Taken.{slot_bytes, slots_of}
use Rattle.delimited_input.proofs.Rows.{padded_more, padded_all}
use Rattle.delimited_input.proofs.row.pad.Goals as goal

pub loop-row-preserved : goal.loop-row-preserved
loop-row-preserved c = λ line.
    let one = c.in_ok-push.ensures.ok in
    let size = ap length one ∙ length_push c.loop-row.row Absent in
    ap (λ s. s ++ replicate (c.args.many - length c.push.new.self) None) (ap (slots_of line) one ∙ map-append (slot_bytes line) c.loop-row.row (Absent ∷ []))
    ∙ (sym (padded_more c.args.many (slots_of line c.loop-row.row) (length c.loop-row.row) (length c.push.new.self) (omega (arith, c.len.ensures)) size) ∙ c.loop-row.invariant line)

pub returns : goal.returns
returns c = λ line. sym (padded_all c.args.many (slots_of line c.loop-row.row) (length c.loop-row.row) (omega (arith, c.len.ensures))) ∙ c.loop-row.invariant line
