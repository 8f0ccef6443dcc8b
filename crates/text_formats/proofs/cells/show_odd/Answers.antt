use Rattle.std.proofs.Common.{◌++◌, take, drop, ap, sym, ◌∙◌}
use Rattle.std.specs.List.{list_any}
use Rattle.std.proofs.lemmas.List.{take-append-drop}
use Rattle.text_formats.specs.Tables.{is_control}
use Rattle.text_formats.proofs.Tabling.{shown_whole}
use Rattle.text_formats.proofs.cells.show_odd.Goals as goal

pub returns-else-has_control-clause-shown : goal.returns-else-has_control-clause-shown
returns-else-has_control-clause-shown c =
    let text = drop c.args.start c.args.texts.now in
    let none = sym (c.has_control.ensures ∙ ap (list_any is_control) (c.bytes_from-text.ensures ∙ ap (drop c.args.start) c.as_slice.ensures)) ∙ c.if-has_control.false in
    sym (take-append-drop c.args.start c.args.texts.now) ∙ ap (λ t. take c.args.start c.args.texts.now ++ t) (sym (shown_whole text none))
