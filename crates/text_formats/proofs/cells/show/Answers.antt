use Rattle.std.proofs.Common.{◌++◌, length, take, drop, ap, sym, ◌∙◌}
use Rattle.std.specs.List.{list_any}
use Rattle.std.proofs.lemmas.List.{take-append-drop}
use Rattle.text_formats.specs.Noted.{is_odd}
use Rattle.text_formats.specs.Tables.{scalars}
use Rattle.text_formats.proofs.Tabling.{even_shown, even_scalars}
use Rattle.text_formats.proofs.cells.show.Goals as goal

pub returns-else-has_odd-clause-shown : goal.returns-else-has_odd-clause-shown
returns-else-has_odd-clause-shown c =
    let text = drop c.args.start c.args.texts.now in
    let same = c.bytes_from-text.ensures ∙ ap (drop c.args.start) c.as_slice.ensures in
    let none = sym (c.has_odd.ensures ∙ ap (list_any is_odd) same) ∙ c.if-has_odd.false in
    sym (take-append-drop c.args.start c.args.texts.now) ∙ ap (λ t. take c.args.start c.args.texts.now ++ t) (sym (even_shown text none))

pub returns-else-has_odd-clause-width : goal.returns-else-has_odd-clause-width
returns-else-has_odd-clause-width c =
    let text = drop c.args.start c.args.texts.now in
    let same = c.bytes_from-text.ensures ∙ ap (drop c.args.start) c.as_slice.ensures in
    let none = sym (c.has_odd.ensures ∙ ap (list_any is_odd) same) ∙ c.if-has_odd.false in
    ap length same ∙ sym (ap scalars (even_shown text none) ∙ even_scalars text none)
