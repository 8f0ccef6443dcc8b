use Rattle.std.proofs.Common.{refl, sym, ◌∙◌}
use Rattle.lp_model.specs.Outside.{Folder}
use Rattle.any_format.specs.Wanted.{wanted_text}
use Rattle.log_reading.specs.Spans.{AreKept}
use Rattle.text_output.specs.Output.{kind_of}
use Rattle.query_run.specs.declared.executing.Written.{Written}
use Rattle.query_tree.specs.Views.{query_of}
use Rattle.row_output.specs.Sinks.{files_for}
use Rattle.column_kinds.specs.Spans.{past_of}
use Rattle.delimited_input.specs.Lines.{delimited_lines}
use Rattle.sampled_run.specs.declared.fault.SampleFault.{SampleFault}
use Rattle.execution.proofs.Telling.{err_told, err_told_with, groups_in_turn, groups_stopped, groups_told, ok_told, rows_in_turn, rows_stopped, rows_told}
use Rattle.execution.proofs.sampling.sample_query.Goals as goal

pub returns-then-is_built-clause-ran : goal.returns-then-is_built-clause-ran
returns-then-is_built-clause-ran g c =
    let lines = delimited_lines c.args.options in
    let kept : Folder → Type 0 = λ folder. AreKept lines c.args.waits c.args.spans.now folder in
    ok_told c.run_sampled.result (g.L.LogSource.folder c.run_sampled.new.logs) _ _
    (λ (run : Written) (folder : Folder) is. λ (k : kept folder). rows_told (kind_of g.G.Stage.state g.G.Stage.ended) c.args.limit c.args.pattern.now c.args.moment.seconds (query_of c.args.query.now) (files_for c.args.into) (wanted_text c.args.wanted c.args.moment.seconds) c.args.stage.now
    (past_of lines c.args.waits folder c.args.spans.now) (sym c.is_built.ensures ∙ c.if-is_built.true) lines c.args.waits folder c.args.spans.now run c.run_sampled.new.stage (is k))
    c.run_sampled.ensures.ran

pub returns-then-is_built-clause-stopped : goal.returns-then-is_built-clause-stopped
returns-then-is_built-clause-stopped g c =
    let lines = delimited_lines c.args.options in
    let kept : Folder → Type 0 = λ folder. AreKept lines c.args.waits c.args.spans.now folder in
    err_told c.run_sampled.result (g.L.LogSource.folder c.run_sampled.new.logs) _ _
    (λ (fault : SampleFault) (folder : Folder) is. λ (k : kept folder). rows_stopped (kind_of g.G.Stage.state g.G.Stage.ended) c.args.limit c.args.pattern.now c.args.moment.seconds (query_of c.args.query.now) (files_for c.args.into) (wanted_text c.args.wanted c.args.moment.seconds) c.args.stage.now
    (past_of lines c.args.waits folder c.args.spans.now) (sym c.is_built.ensures ∙ c.if-is_built.true) fault c.run_sampled.new.stage (is k))
    c.run_sampled.ensures.stopped

pub returns-else-is_built-clause-ran : goal.returns-else-is_built-clause-ran
returns-else-is_built-clause-ran g c =
    let lines = delimited_lines c.args.options in
    let kept : Folder → Type 0 = λ folder. AreKept lines c.args.waits c.args.spans.now folder in
    ok_told c.run_sampled_groups.result (g.L.LogSource.folder c.run_sampled_groups.new.logs) _ _
    (λ (run : Written) (folder : Folder) is. λ (k : kept folder). groups_told (kind_of g.G.Stage.state g.G.Stage.ended) c.args.limit c.args.pattern.now c.args.moment.seconds (query_of c.args.query.now) (files_for c.args.into) (wanted_text c.args.wanted c.args.moment.seconds) c.args.stage.now
    (past_of lines c.args.waits folder c.args.spans.now) (sym c.is_built.ensures ∙ c.if-is_built.false) lines c.args.waits folder c.args.spans.now run c.run_sampled_groups.new.stage (is k))
    c.run_sampled_groups.ensures.ran

pub returns-else-is_built-clause-stopped : goal.returns-else-is_built-clause-stopped
returns-else-is_built-clause-stopped g c =
    let lines = delimited_lines c.args.options in
    let kept : Folder → Type 0 = λ folder. AreKept lines c.args.waits c.args.spans.now folder in
    err_told c.run_sampled_groups.result (g.L.LogSource.folder c.run_sampled_groups.new.logs) _ _
    (λ (fault : SampleFault) (folder : Folder) is. λ (k : kept folder). groups_stopped (kind_of g.G.Stage.state g.G.Stage.ended) c.args.limit c.args.pattern.now c.args.moment.seconds (query_of c.args.query.now) (files_for c.args.into) (wanted_text c.args.wanted c.args.moment.seconds) c.args.stage.now
    (past_of lines c.args.waits folder c.args.spans.now) (sym c.is_built.ensures ∙ c.if-is_built.false) fault c.run_sampled_groups.new.stage (is k))
    c.run_sampled_groups.ensures.stopped

pub returns-then-is_built-clause-in_turn : goal.returns-then-is_built-clause-in_turn
returns-then-is_built-clause-in_turn g c =
    let lines = delimited_lines c.args.options in
    let kept : Folder → Type 0 = λ folder. AreKept lines c.args.waits c.args.spans.now folder in
    err_told c.run_sampled.result (g.L.LogSource.folder c.run_sampled.new.logs) _ _
    (λ (fault : SampleFault) (folder : Folder) is. λ (k : kept folder). rows_in_turn (kind_of g.G.Stage.state g.G.Stage.ended) c.args.limit c.args.pattern.now c.args.moment.seconds (query_of c.args.query.now) (files_for c.args.into) (wanted_text c.args.wanted c.args.moment.seconds) c.args.stage.now
    (past_of lines c.args.waits folder c.args.spans.now) (sym c.is_built.ensures ∙ c.if-is_built.true) c.args.most_bad lines c.args.waits folder c.args.spans.now fault c.run_sampled.new.stage (is k))
    c.run_sampled.ensures.in_turn

pub returns-else-is_built-clause-in_turn : goal.returns-else-is_built-clause-in_turn
returns-else-is_built-clause-in_turn g c =
    let lines = delimited_lines c.args.options in
    let kept : Folder → Type 0 = λ folder. AreKept lines c.args.waits c.args.spans.now folder in
    err_told_with c.run_sampled_groups.result (g.L.LogSource.folder c.run_sampled_groups.new.logs) _ _ _
    (λ (fault : SampleFault) (folder : Folder) stopped is. λ (k : kept folder). groups_in_turn (kind_of g.G.Stage.state g.G.Stage.ended) c.args.limit c.args.pattern.now c.args.moment.seconds (query_of c.args.query.now) (files_for c.args.into) (wanted_text c.args.wanted c.args.moment.seconds) c.args.stage.now
    (past_of lines c.args.waits folder c.args.spans.now) (sym c.is_built.ensures ∙ c.if-is_built.false) c.args.most_bad lines c.args.waits folder c.args.spans.now fault c.run_sampled_groups.new.stage refl (stopped k) (is k))
    c.run_sampled_groups.ensures.stopped c.run_sampled_groups.ensures.in_turn
