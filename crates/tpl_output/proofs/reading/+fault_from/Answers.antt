use Rattle.std.proofs.Common.{false, sym, ◌∙◌}
use Rattle.tpl_output.specs.declared.placed.Placed.{Placed}
use Rattle.tpl_output.specs.declared.section.Section.TheVariants.{Header}
use Rattle.tpl_output.proofs.Scanning.{head_rest, fault_closed}
use Rattle.tpl_output.proofs.reading.+fault_from.Goals as goal

pub returns-then-closes : goal.returns-then-closes
returns-then-closes t c =
    let d : Placed = record { at = 0; behind = 0; tag = record { section = Header; closing = false } } in
    let first = head_rest c.args.tags.now d c.in-len1-up.len_at_least in
    let second = head_rest _ d c.in-len1-up-tags.len_at_least in
    fault_closed c.args.text.now c.args.from c.args.least c.order_of.result c.args.tags.now _ _ _ _ c.fault_before.result c.fault_from.result first second c.fault_before.ensures c.in_default-fault_before.is (sym c.closes.ensures ∙ c.if-closes.true) c.order_of.ensures
    c.fault_from.ensures
