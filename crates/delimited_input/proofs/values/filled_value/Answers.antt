use Rattle.std.proofs.Common.{◌≡◌, ap, sym, ◌∙◌}
use Rattle.std.proofs.lemmas.Result.{IfOk-weaker}
use Rattle.std.proofs.lemmas.Str.{utf8_lossy-IsUtf8}
use Rattle.std.specs.Str.Lossy.{utf8_lossy}
use Rattle.delimited_input.specs.Values.{text_value}
use Rattle.delimited_input.proofs.values.filled_value.Goals as goal

pub returns-in-Ok : goal.returns-in-Ok
returns-in-Ok c =
    let bytes = c.args.bytes.now in
    let whole : c.in-Ok.text.now ≡ utf8_lossy bytes = c.in-Ok.ensures.cases.0 ∙ sym (utf8_lossy-IsUtf8 bytes c.in-Ok.ensures.cases.1) in
    IfOk-weaker c.text_value.result _ _ (λ value is. is ∙ ap (text_value c.args.kind c.args.pattern.now) whole) c.text_value.ensures
