use Rattle.std.proofs.Common.{length, replicate, refl, ap, sym, ◌∙◌}
use Rattle.std.proofs.lemmas.List.{length-replicate}
use Rattle.delimited_input.specs.Sampled.{new_tally}
use Rattle.delimited_input.proofs.Sampling.{stands_new}
use Rattle.delimited_input.proofs.sampler.KindSampler.new.Goals as goal

pub returns-clause-stands : goal.returns-clause-stands
returns-clause-stands c =
    stands_new c.args.limit _ c.args.pattern.now c.in_ok-tallies.tallies.items refl
    (c.in_ok-tallies.ensures ∙ ap (λ n. replicate n new_tally) (sym (ap length c.in_ok-tallies.ensures ∙ length-replicate c.args.columns new_tally)))
