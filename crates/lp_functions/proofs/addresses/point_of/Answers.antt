use Rattle.std.proofs.Common.{◌≤◌, length, not, Some, None, arith}
use Rattle.std.proofs.lemmas.List.Sums.{prefix_len-le-length}
use Rattle.std.specs.List.{position_or_len}
use Rattle.lp_values.specs.Readings.{is_point}
use Rattle.lp_values.proofs.ReadingLemmas.{point_from_memchr}
use Rattle.lp_functions.proofs.addresses.point_of.Goals as goal

pub returns-in-Some-clause-value : goal.returns-in-Some-clause-value
returns-in-Some-clause-value c = (point_from_memchr c.args.text.now (Some c.in-Some.point) c.in-Some.ensures).0

pub returns-in-None-clause-value : goal.returns-in-None-clause-value
returns-in-None-clause-value c =
    let far : length c.args.text.now ≤ position_or_len is_point c.args.text.now = point_from_memchr c.args.text.now None c.in-None.ensures in
    omega (arith, prefix_len-le-length (λ b. not (is_point b)) c.args.text.now)
