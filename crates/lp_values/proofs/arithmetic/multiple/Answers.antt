use Rattle.std.proofs.Common.{◌≡◌, FitsSigned, arith}
use Rattle.std.specs.Int.{int_rem_euclid, w128}
use Rattle.std.proofs.lemmas.Int.{to_z-of_z, ints}
use Rattle.lp_values.proofs.arithmetic.multiple.Goals as goal

pub returns : goal.returns
returns c =
    let number : FitsSigned w128 c.args.number = c.ranges.number in
    let step : FitsSigned w128 c.args.step = c.ranges.step in
    let rest : c.rem_euclid.result ≡ int_rem_euclid c.args.number c.args.step = simp to_z-of_z at c.rem_euclid.ensures.value in
    rw (← rest) (omega (arith, ints))
