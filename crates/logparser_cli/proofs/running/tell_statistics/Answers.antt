use Rattle.std.proofs.Common.{Bool, inl, sym, subst}
use Rattle.lp_model.specs.Outside.{Gains}
use Rattle.logparser_cli.specs.Whole.{told_statistics}
use Rattle.logparser_cli.proofs.running.tell_statistics.Goals as goal

pub returns-in-Ok-clause-told : goal.returns-in-Ok-clause-told
returns-in-Ok-clause-told g c = inl (subst (λ (stats : Bool). Gains (g.E.Sink.written c.args.err.now) (g.E.Sink.written c.write_statistics.new.err) (told_statistics stats c.args.counts.now)) (sym c.if-stats.true) c.in-Ok.ensures.ok)
