use Rattle.std.proofs.Common.{ℕ, Option, subst}
use Rattle.any_format.specs.Wanted.{wanted_text}
use Rattle.log_reading.specs.Page.{IsWithin}
use Rattle.text_output.specs.Output.{kind_of}
use Rattle.grammar.specs.Filled.{given_bad}
use Rattle.query_tree.specs.Views.{query_of}
use Rattle.row_output.specs.Sinks.{files_for}
use Rattle.delimited_input.specs.Lines.{delimited_lines}
use Rattle.execution.specs.Plans.{asked_for}
use Rattle.execution.proofs.Taking.{taken}
use Rattle.execution.proofs.Budgeting.{all_within, are_all}
use Rattle.execution.proofs.SampledRuns.{executed, stopped, typed_in_turn, unplaced, unplaced_stopped, unplanned, untouched, refused_stopped, parse_error}
use Rattle.execution.proofs.sampled.execute_sampled.Goals as goal

pub returns-in-Ok-clause-ran : goal.returns-in-Ok-clause-ran
returns-in-Ok-clause-ran g c =
    executed (kind_of g.G.Stage.state g.G.Stage.ended) (g.L.LogSource.folder c.sample_query.new.logs) c.args.stage.now c.sample_query.new.stage (asked_for (files_for c.args.into) (wanted_text c.args.wanted c.args.moment.seconds) (query_of c.args.query.now)) c.args.spec.now c.args.moment.seconds (query_of c.args.query.now) c.args.options c.args.limit c.args.waits
    c.as_slice.result.now c.args.spans.now c.in-Ok.run' c.with_before.result c.as_slice.ensures
    (are_all (query_of c.args.query.now) c.args.spec.now.errors c.args.budget c.in-Ok.run'.counts c.with_before.result c.requires.budget c.with_before.ensures.processed c.with_before.ensures.output c.with_before.ensures.bad)
    c.in-Ok.ensures.ran

pub returns-in-Ok-clause-within : goal.returns-in-Ok-clause-within
returns-in-Ok-clause-within g c =
    all_within c.args.spec.now.errors (given_bad (query_of c.args.query.now)) c.args.budget c.in-Ok.run'.counts.bad c.with_before.result.bad c.requires.budget c.in-Ok.ensures.within c.with_before.ensures.bad

pub returns-in-Ok-clause-took : goal.returns-in-Ok-clause-took
returns-in-Ok-clause-took g c =
    taken (g.L.LogSource.folder c.sample_query.new.logs) (delimited_lines c.args.options) c.args.waits c.as_slice.result.now c.args.spans.now c.new-took.result c.sample_query.new.took c.as_slice.ensures c.new-took.ensures c.in-Ok.ensures.took

pub returns-in-Some-clause-stopped : goal.returns-in-Some-clause-stopped
returns-in-Some-clause-stopped g c =
    stopped (kind_of g.G.Stage.state g.G.Stage.ended) (g.L.LogSource.folder c.sample_query.new.logs) c.args.stage.now c.sample_query.new.stage (asked_for (files_for c.args.into) (wanted_text c.args.wanted c.args.moment.seconds) (query_of c.args.query.now)) c.args.spec.now c.args.moment.seconds (query_of c.args.query.now) c.args.options c.args.limit c.args.waits
    c.as_slice.result.now c.args.spans.now c.as_slice.ensures (rw c.in-Err-Bad.field-0-is at c.in-Err-Bad.ensures.stopped)

pub returns-in-Err-Logs-clause-stopped : goal.returns-in-Err-Logs-clause-stopped
returns-in-Err-Logs-clause-stopped g c =
    stopped (kind_of g.G.Stage.state g.G.Stage.ended) (g.L.LogSource.folder c.sample_query.new.logs) c.args.stage.now c.sample_query.new.stage (asked_for (files_for c.args.into) (wanted_text c.args.wanted c.args.moment.seconds) (query_of c.args.query.now)) c.args.spec.now c.args.moment.seconds (query_of c.args.query.now) c.args.options c.args.limit c.args.waits
    c.as_slice.result.now c.args.spans.now c.as_slice.ensures (rw c.in-Err-Logs.field-0-is at c.in-Err-Logs.ensures.stopped)

pub returns-in-Err-Output-clause-stopped : goal.returns-in-Err-Output-clause-stopped
returns-in-Err-Output-clause-stopped g c =
    stopped (kind_of g.G.Stage.state g.G.Stage.ended) (g.L.LogSource.folder c.sample_query.new.logs) c.args.stage.now c.sample_query.new.stage (asked_for (files_for c.args.into) (wanted_text c.args.wanted c.args.moment.seconds) (query_of c.args.query.now)) c.args.spec.now c.args.moment.seconds (query_of c.args.query.now) c.args.options c.args.limit c.args.waits
    c.as_slice.result.now c.args.spans.now c.as_slice.ensures (rw c.in-Err-Output.field-0-is at c.in-Err-Output.ensures.stopped)

pub returns-clause-stopped : goal.returns-clause-stopped
returns-clause-stopped g c =
    stopped (kind_of g.G.Stage.state g.G.Stage.ended) (g.L.LogSource.folder c.sample_query.new.logs) c.args.stage.now c.sample_query.new.stage (asked_for (files_for c.args.into) (wanted_text c.args.wanted c.args.moment.seconds) (query_of c.args.query.now)) c.args.spec.now c.args.moment.seconds (query_of c.args.query.now) c.args.options c.args.limit c.args.waits
    c.as_slice.result.now c.args.spans.now c.as_slice.ensures (rw c.in-Err-Memory.field-0-is at c.in-Err-Memory.ensures.stopped)

pub returns-in-Err-Refused-clause-stopped : goal.returns-in-Err-Refused-clause-stopped
returns-in-Err-Refused-clause-stopped g c =
    unplaced_stopped (kind_of g.G.Stage.state g.G.Stage.ended) (g.L.LogSource.folder c.sample_query.new.logs) c.args.stage.now c.sample_query.new.stage (asked_for (files_for c.args.into) (wanted_text c.args.wanted c.args.moment.seconds) (query_of c.args.query.now)) c.args.spec.now c.args.moment.seconds (query_of c.args.query.now) c.args.options c.args.limit c.args.waits
    c.as_slice.result.now c.args.spans.now _ c.as_slice.ensures (rw c.in-Err-Refused.field-0-is at c.in-Err-Refused.ensures.stopped)

pub returns-in-Err-Refused-clause-refused : goal.returns-in-Err-Refused-clause-refused
returns-in-Err-Refused-clause-refused g c =
    rw c.in-Err-Refused.field-0-is (unplaced (kind_of g.G.Stage.state g.G.Stage.ended) (g.L.LogSource.folder c.sample_query.new.logs) c.args.stage.now c.sample_query.new.stage (asked_for (files_for c.args.into) (wanted_text c.args.wanted c.args.moment.seconds) (query_of c.args.query.now)) c.args.spec.now c.args.moment.seconds (query_of c.args.query.now) c.args.options c.args.limit c.args.waits
    c.as_slice.result.now c.args.spans.now _ c.args.budget c.as_slice.ensures c.requires.budget (rw c.in-Err-Refused.field-0-is at c.in-Err-Refused.ensures.stopped) (rw c.in-Err-Refused.field-0-is at c.in-Err-Refused.ensures.in_turn))

pub returns-in-Err-Plan-clause-stopped : goal.returns-in-Err-Plan-clause-stopped
returns-in-Err-Plan-clause-stopped g c =
    refused_stopped (kind_of g.G.Stage.state g.G.Stage.ended) (g.L.LogSource.folder c.sample_query.new.logs) c.args.stage.now c.sample_query.new.stage (asked_for (files_for c.args.into) (wanted_text c.args.wanted c.args.moment.seconds) (query_of c.args.query.now)) c.args.spec.now c.args.moment.seconds (query_of c.args.query.now) c.args.options c.args.limit c.args.waits
    c.as_slice.result.now c.args.spans.now _ c.as_slice.ensures (rw c.in-Err-Plan.field-0-is at c.in-Err-Plan.ensures.stopped)

pub returns-in-Err-Plan-clause-plan : goal.returns-in-Err-Plan-clause-plan
returns-in-Err-Plan-clause-plan g c =
    rw c.in-Err-Plan.field-0-is (unplanned (kind_of g.G.Stage.state g.G.Stage.ended) (g.L.LogSource.folder c.sample_query.new.logs) c.args.stage.now c.sample_query.new.stage (asked_for (files_for c.args.into) (wanted_text c.args.wanted c.args.moment.seconds) (query_of c.args.query.now)) c.args.spec.now c.args.moment.seconds (query_of c.args.query.now) c.args.options c.args.limit c.args.waits
    c.as_slice.result.now c.args.spans.now _ c.as_slice.ensures (rw c.in-Err-Plan.field-0-is at c.in-Err-Plan.ensures.stopped))

pub returns-in-Err-Plan-clause-before : goal.returns-in-Err-Plan-clause-before
returns-in-Err-Plan-clause-before g c =
    untouched (kind_of g.G.Stage.state g.G.Stage.ended) (g.L.LogSource.folder c.sample_query.new.logs) c.args.stage.now c.sample_query.new.stage (asked_for (files_for c.args.into) (wanted_text c.args.wanted c.args.moment.seconds) (query_of c.args.query.now)) c.args.spec.now c.args.moment.seconds (query_of c.args.query.now) c.args.options c.args.limit c.args.waits
    c.as_slice.result.now c.args.spans.now _ c.as_slice.ensures (rw c.in-Err-Plan.field-0-is at c.in-Err-Plan.ensures.stopped)

pub returns-in-Some-clause-parse : goal.returns-in-Some-clause-parse
returns-in-Some-clause-parse g c =
    rw c.in-Err-Bad.field-0-is (parse_error (kind_of g.G.Stage.state g.G.Stage.ended) (g.L.LogSource.folder c.sample_query.new.logs) c.args.stage.now c.sample_query.new.stage (asked_for (files_for c.args.into) (wanted_text c.args.wanted c.args.moment.seconds) (query_of c.args.query.now)) c.args.spec.now c.args.moment.seconds (query_of c.args.query.now) c.args.options c.args.limit c.args.waits
    c.as_slice.result.now c.args.spans.now c.in-Some.field-0 c.args.budget _ _ c.as_slice.ensures c.in-Some.is c.requires.budget (rw c.in-Err-Bad.field-0-is at c.in-Err-Bad.ensures.too_many) (rw c.in-Err-Bad.field-0-is at c.in-Err-Bad.ensures.in_turn))

pub returns-in-Err-Plan-clause-plan_in_turn : goal.returns-in-Err-Plan-clause-plan_in_turn
returns-in-Err-Plan-clause-plan_in_turn g c =
    typed_in_turn (kind_of g.G.Stage.state g.G.Stage.ended) (g.L.LogSource.folder c.sample_query.new.logs) c.args.stage.now c.sample_query.new.stage (asked_for (files_for c.args.into) (wanted_text c.args.wanted c.args.moment.seconds) (query_of c.args.query.now)) c.args.spec.now c.args.moment.seconds (query_of c.args.query.now) c.args.options c.args.limit c.args.waits
    c.as_slice.result.now c.args.spans.now c.in-Err-Plan.fault c.args.budget c.as_slice.ensures c.requires.budget (rw c.in-Err-Plan.field-0-is at c.in-Err-Plan.ensures.in_turn)
