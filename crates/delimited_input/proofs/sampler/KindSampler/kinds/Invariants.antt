use Rattle.std.proofs.Common.{◌≡◌, map, take}
use Rattle.delimited_input.specs.Sampled.{kind_seen}
use Rattle.delimited_input.proofs.sampler.KindSampler.kinds.Given as goal

abbrev pub invariant-loop-tally : goal.invariant-loop-tally
invariant-loop-tally l = l.kinds ≡ map (kind_seen l.self-inside.met) (take l.tally-index l.tally-items)
