use Rattle.std.proofs.Common.{◌≡◌, map}
use Rattle.std.specs.List.{range_with_len}
use Rattle.delimited_input.specs.Names.{made_name}
use Rattle.delimited_input.proofs.header.made_names.Given as goal

abbrev pub invariant-loop-place : goal.invariant-loop-place
invariant-loop-place l = l.names ≡ map made_name (range_with_len 1 l.place)
