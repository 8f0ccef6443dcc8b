use Rattle.std.proofs.Common.{◌++◌, w64, sym, ap, ◌∙◌}
use Rattle.std.proofs.lemmas.Int.{to_z-of_z}
use Rattle.std.proofs.lemmas.Result.{on_ok_weaker}
use Rattle.std.specs.Fmt.{signed_decimal}
use Rattle.output_formats.proofs.Quoting.{number_plain}
use Rattle.output_formats.proofs.csv.add_integer.Goals as goal

pub returns-clause-ok : goal.returns-clause-ok
returns-clause-ok c =
    let number = c.args.number in
    let same = ap (λ z. c.args.to.now ++ signed_decimal z) (to_z-of_z w64 number c.ranges.number) in
    on_ok_weaker c.print.result (λ is only. is ∙ (same ∙ ap (λ t. c.args.to.now ++ t) (sym (number_plain only number c.ranges.number)))) c.print.ensures.ok
