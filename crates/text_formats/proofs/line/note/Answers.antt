use Rattle.std.proofs.Common.{◌-◌, length, ap, ◌∙◌}
use Rattle.text_formats.specs.Tables.{cell_of}
use Rattle.text_formats.proofs.Noting.{noted_next}
use Rattle.text_formats.proofs.Stopping.{on_ok_map}
use Rattle.text_formats.proofs.line.note.Goals as goal

pub returns-clause-noted : goal.returns-clause-noted
returns-clause-noted c =
    let new = c.add_cell.new.texts in
    let start = c.len-start.result in
    let size = ap (λ n. n - start) c.len.ensures ∙ ap (λ n. length new - n) c.len-start.ensures in
    on_ok_map _ _ c.push.result
    (λ one. (noted_next c.args.texts.now (cell_of c.args.value.now) new c.args.cells.now c.push.new.self _ c.requires c.in_ok-width.ensures.text c.len-start.ensures size c.in_ok-width.ensures.width one).0) c.push.ensures.ok

pub returns-clause-texts : goal.returns-clause-texts
returns-clause-texts c =
    let new = c.add_cell.new.texts in
    let start = c.len-start.result in
    let size = ap (λ n. n - start) c.len.ensures ∙ ap (λ n. length new - n) c.len-start.ensures in
    on_ok_map _ _ c.push.result
    (λ one. (noted_next c.args.texts.now (cell_of c.args.value.now) new c.args.cells.now c.push.new.self _ c.requires c.in_ok-width.ensures.text c.len-start.ensures size c.in_ok-width.ensures.width one).1) c.push.ensures.ok
