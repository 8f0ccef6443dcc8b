use Rattle.commit.proofs.phases.Commit.settle.Goals as goal

pub returns-in-Ok-clause-settled : goal.returns-in-Ok-clause-settled
returns-in-Ok-clause-settled g c = λ can entries files recovers. let s = c.in-Ok.ensures.settled can entries files recovers in (s.0, s.2)
