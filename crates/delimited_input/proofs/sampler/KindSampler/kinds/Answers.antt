use Rattle.std.proofs.Common.{map, ap, ◌∙◌}
use Rattle.std.proofs.lemmas.List.{take_all}
use Rattle.delimited_input.specs.Sampled.{kind_seen, Sampled}
use Rattle.delimited_input.proofs.Sampling.{kinds_told}
use Rattle.delimited_input.proofs.sampler.KindSampler.kinds.Goals as goal

pub returns : goal.returns
returns c =
    kinds_told c.args.self.now c.loop-tally.kinds
    (c.loop-tally.invariant
    ∙ (ap (map (kind_seen c.self.inside.met)) (take_all c.loop-tally.tally-index c.deref-tally-items.result.now c.loop-tally-test.false ∙ c.deref-tally-items.ensures.value)
    ∙ ap (λ (s : Sampled). map (kind_seen s.met) s.tallies) c.self.view_is))
