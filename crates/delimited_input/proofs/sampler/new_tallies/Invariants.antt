use Rattle.std.proofs.Common.{◌≡◌, replicate}
use Rattle.delimited_input.specs.Sampled.{new_tally}
use Rattle.delimited_input.proofs.sampler.new_tallies.Given as goal

abbrev pub invariant-loop : goal.invariant-loop
invariant-loop l = l.tallies.items ≡ replicate l.counter new_tally
