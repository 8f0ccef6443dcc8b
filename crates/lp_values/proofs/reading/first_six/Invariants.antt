use Rattle.std.proofs.Common.{◌≡◌, ◌<◌, ◌^◌, take, replicate, ◌++◌}
use Rattle.std.specs.Str.Parse.{digits_value}
use Rattle.lp_values.proofs.reading.first_six.Given as goal

-- The digits so far.
abbrev pub invariant-loop-place : goal.invariant-loop-place
invariant-loop-place l = (l.number ≡ digits_value 10 (take l.place (l.text ++ replicate 6 48))) × (l.number < 10 ^ l.place)
