use Rattle.std.proofs.Common.{sym, subst}
use Rattle.text_output.specs.Output.{kind_of}
use Rattle.sampled_run.specs.declared.fault.SampleFault.{SampleFault}
use Rattle.sampled_run.specs.Kinds.{run_rules}
use Rattle.sampled_run.specs.Ran.{IsOfEnd, IsStoppedBy}
use Rattle.sampled_run.proofs.Puts.{end_stopped, stop_is, written_is}
use Rattle.sampled_run.proofs.Faults.{output_end}
use Rattle.sampled_run.proofs.Ran.{stop_end}
use Rattle.sampled_run.proofs.ending.finish_run.Goals as goal

pub returns-in-Ok-finished-clause-written : goal.returns-in-Ok-finished-clause-written
returns-in-Ok-finished-clause-written g c = λ rules begin past fits holds.
    written_is (kind_of g.G.Stage.state g.G.Stage.ended) rules begin past c.in-Ok.writer c.output_of-output.result c.finish.new.out c.finish-finished.new.stage _ _ fits c.output_of-output.ensures c.in-Ok-finished.ensures.hold c.in-Ok-finished.ensures.rows (c.in-Ok.ensures.begun rules begin past holds)

pub returns-in-Err-finished-clause-stopped : goal.returns-in-Err-finished-clause-stopped
returns-in-Err-finished-clause-stopped g c = λ rules begin past fits holds.
    let v = c.finish-finished.new.stage in
    subst (λ (fault : SampleFault). IsStoppedBy (kind_of g.G.Stage.state g.G.Stage.ended) (run_rules rules) begin past fault v) (sym c.ended_by.ensures)
    (end_stopped (kind_of g.G.Stage.state g.G.Stage.ended) rules begin past c.in-Ok.writer c.output_of-output.result c.finish.new.out v c.in-Err-finished.fault fits c.output_of-output.ensures c.in-Err-finished.ensures.stop c.in-Err-finished.ensures.refused (c.in-Ok.ensures.begun rules begin past holds))

pub returns-in-Err-finished-clause-ended : goal.returns-in-Err-finished-clause-ended
returns-in-Err-finished-clause-ended g c = subst IsOfEnd (sym c.ended_by.ensures) (output_end c.in-Err-finished.fault)

pub returns-in-Err-clause-stopped : goal.returns-in-Err-clause-stopped
returns-in-Err-clause-stopped g c = λ rules begin past fits holds.
    let v = c.finish.new.out in
    subst (λ (fault : SampleFault). IsStoppedBy (kind_of g.G.Stage.state g.G.Stage.ended) (run_rules rules) begin past fault v) (sym c.fault_of.ensures)
    (stop_is (kind_of g.G.Stage.state g.G.Stage.ended) rules begin past c.in-Err.stop v fits (c.in-Err.ensures.stopped rules begin past holds))

pub returns-in-Err-clause-ended : goal.returns-in-Err-clause-ended
returns-in-Err-clause-ended g c = subst IsOfEnd (sym c.fault_of.ensures) (stop_end c.in-Err.stop)
