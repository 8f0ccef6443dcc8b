use Rattle.std.proofs.Common.{◌++◌, List, ℕ, OnOk, OnErr, decimal, subst}
use Rattle.std.proofs.lemmas.List.{append-nil}
use Rattle.lp_model.specs.Outside.{Gains, GainsSome}
use Rattle.reports.proofs.report.write_behind.Goals as goal

pub returns-clause-ok : goal.returns-clause-ok
returns-clause-ok g c = subst (λ (t : List ℕ). OnOk c.write_number.result (Gains (g.E.Sink.written c.args.err.now) (g.E.Sink.written c.write_number.new.err) t)) (append-nil (c.args.head.now ++ decimal c.args.number)) c.write_number.ensures.ok

pub returns-clause-err : goal.returns-clause-err
returns-clause-err g c = subst (λ (t : List ℕ). OnErr c.write_number.result (GainsSome (g.E.Sink.written c.args.err.now) (g.E.Sink.written c.write_number.new.err) t)) (append-nil (c.args.head.now ++ decimal c.args.number)) c.write_number.ensures.err
