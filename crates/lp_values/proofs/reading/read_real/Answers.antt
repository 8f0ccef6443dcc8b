use Rattle.std.proofs.Common.{◌≡◌, ◌∙◌, ap}
use Rattle.std.specs.List.{before_first, after_first}
use Rattle.std.specs.Str.Parse.{without_leading_sign}
use Rattle.lp_values.specs.Readings.{is_point}
use Rattle.lp_values.proofs.ReadingLemmas.{whole_none}
use Rattle.lp_values.proofs.reading.read_real.Goals as goal

pub returns-in_err-whole-2 : goal.returns-in_err-whole-2
returns-in_err-whole-2 c =
    let parts = c.in_ok-whole.ensures in
    let bare : c.without_sign-unsigned.result.now ≡ without_leading_sign c.args.text.now = c.without_sign-unsigned.ensures ∙ ap without_leading_sign c.as_bytes-bytes.ensures.value in
    c.from_residual-in_err-whole-2.ensures ∙ whole_none c.args.text.now c.in_ok-whole.whole.now c.in_ok-whole.decimals.now
    (parts.0 ∙ ap (before_first is_point) bare) (parts.1 ∙ ap (after_first is_point) bare) c.in_err-whole-2.ensures
