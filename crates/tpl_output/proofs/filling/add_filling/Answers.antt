use Rattle.std.proofs.Common.{List, ◌++◌, flat_map, ap}
use Rattle.lp_model.proofs.Results.{on_err}
use Rattle.lp_model.proofs.Buffers.{grows_front, grows_along}
use Rattle.text_formats.proofs.Tabling.{grows_rows}
use Rattle.tpl_output.specs.declared.filling.Part.{Part}
use Rattle.tpl_output.specs.Tpl.{part_text}
use Rattle.tpl_output.proofs.filling.add_filling.Goals as goal

pub returns-in_err-add_part-clause-err : goal.returns-in_err-add_part-clause-err
returns-in_err-add_part-clause-err c =
    let items = c.as_slice-part-items.result.now in
    let text = part_text c.args.values.now in
    on_err _ c.from_residual.result
    (grows_along c.args.to.now c.add_part.new.to _ _ (ap (λ (parts : List Part). flat_map text parts ++ c.args.filling.now.tail) c.as_slice-part-items.ensures)
    (grows_front c.args.to.now c.add_part.new.to (flat_map text items) c.args.filling.now.tail
    (grows_rows text items c.loop-part.part-index c.part-item.result c.args.to.now c.loop-part.to c.add_part.new.to c.loop-part-test.true c.part-item.is c.loop-part.invariant c.in_err-add_part.ensures.err)))
