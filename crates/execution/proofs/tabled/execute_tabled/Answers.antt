use Rattle.std.proofs.Common.{ℕ, ℤ, List, Option, Err, inl, inr, refl, subst}
use Rattle.grammar.specs.Filled.{given_bad}
use Rattle.grammar.specs.Trees as model
use Rattle.lp_model.proofs.Growing.{OnlyGrow-refl}
use Rattle.any_format.specs.Wanted.{wanted_text}
use Rattle.any_format.specs.declared.wanted.Wanted.{Wanted}
use Rattle.log_reading.specs.Page.{IsWithin}
use Rattle.lp_values.specs.declared.value.Value.{Value}
use Rattle.text_output.specs.Output.{kind_of}
use Rattle.query_tree.specs.Views.{query_of}
use Rattle.row_output.specs.Asked.{Asked}
use Rattle.row_output.specs.Kept.{asked_of}
use Rattle.row_output.specs.Rows.{Holds, IsRefused, Stops}
use Rattle.row_output.specs.Sinks.{files_for}
use Rattle.row_output.specs.declared.into.Into.{Into}
use Rattle.input_tables.specs.Tables.{lines_of}
use Rattle.execution.specs.declared.fault.Ran.{Ran}
use Rattle.execution.specs.declared.formats.LogFormat.TheVariants as F
use Rattle.execution.specs.Executed.{IsTypedInTurn}
use Rattle.execution.specs.Fitting.{planned_query}
use Rattle.execution.specs.Plans.{PlannedQuery, asked_for}
use Rattle.execution.proofs.Taking.{taken}
use Rattle.execution.proofs.Budgeting.{all_within, are_all}
use Rattle.execution.proofs.InTurns.{plan_each, typed_first}
use Rattle.execution.proofs.TabledRuns.{executed, front, named_first, parse_error, passed, unplaced}
use Rattle.execution.proofs.tabled.execute_tabled.Goals as goal

abbrev asked_with : Into → Wanted → ℤ → model.Query → PlannedQuery → Asked
asked_with into wanted moment q = asked_for (files_for into) (wanted_text wanted moment) q

pub returns-in-Err-clause-grows : goal.returns-in-Err-clause-grows
returns-in-Err-clause-grows g c = OnlyGrow-refl _

pub returns-in_default-clause-grows : goal.returns-in_default-clause-grows
returns-in_default-clause-grows g c = OnlyGrow-refl _

pub returns-in-Ok-carry_out-clause-ran : goal.returns-in-Ok-carry_out-clause-ran
returns-in-Ok-carry_out-clause-ran g c =
    let run = c.in-Ok-carry_out.ensures in
    let Has : Asked → List (List Value) → Type 0 = λ asked rows. Holds (kind_of g.G.Stage.state g.G.Stage.ended) asked c.args.stage.now rows c.in-Ok-carry_out.run'.outputs c.carry_out.new.stage in
    executed (g.L.LogSource.folder c.carry_out.new.logs) Has (asked_with c.args.into c.args.wanted c.args.moment.seconds (query_of c.args.query.now)) c.args.spec.now c.args.moment.seconds (query_of c.args.query.now)
    c.args.format c.args.waits (planned_query c.in-Ok.plan) c.as_slice.result.now c.args.spans.now c.in-Ok-carry_out.run'.counts c.with_before.result (asked_of c.in-Ok-output_over.output) c.as_slice.ensures c.in-Ok.ensures.plan c.in-Ok-output_over.ensures.asked
    (are_all (query_of c.args.query.now) c.args.spec.now.errors c.args.budget c.in-Ok-carry_out.run'.counts c.with_before.result c.requires.budget c.with_before.ensures.processed c.with_before.ensures.output c.with_before.ensures.bad)
    run.holds run.processed run.output run.bad

pub returns-in-Ok-carry_out-clause-within : goal.returns-in-Ok-carry_out-clause-within
returns-in-Ok-carry_out-clause-within g c =
    all_within c.args.spec.now.errors (given_bad (query_of c.args.query.now)) c.args.budget c.in-Ok-carry_out.run'.counts.bad c.with_before.result.bad c.requires.budget c.in-Ok-carry_out.ensures.within c.with_before.ensures.bad

pub returns-in-Ok-carry_out-clause-took : goal.returns-in-Ok-carry_out-clause-took
returns-in-Ok-carry_out-clause-took g c =
    taken (g.L.LogSource.folder c.carry_out.new.logs) (lines_of c.args.format) c.args.waits c.as_slice.result.now c.args.spans.now c.new-took.result c.carry_out.new.took c.as_slice.ensures c.new-took.ensures c.in-Ok-carry_out.ensures.took

pub returns-in-Err-Memory-clause-stopped : goal.returns-in-Err-Memory-clause-stopped
returns-in-Err-Memory-clause-stopped g c = inr
    (front (g.L.LogSource.folder c.carry_out.new.logs) (λ asked rows. Stops (kind_of g.G.Stage.state g.G.Stage.ended) asked c.args.stage.now rows c.carry_out.new.stage) (asked_with c.args.into c.args.wanted c.args.moment.seconds (query_of c.args.query.now)) c.args.spec.now c.args.moment.seconds (query_of c.args.query.now)
    c.args.format c.args.waits (planned_query c.in-Ok.plan) c.as_slice.result.now c.args.spans.now (asked_of c.in-Ok-output_over.output) c.as_slice.ensures c.in-Ok.ensures.plan c.in-Ok-output_over.ensures.asked c.in-Err-Memory.ensures.stops)

pub returns-in-Err-Logs-clause-stopped : goal.returns-in-Err-Logs-clause-stopped
returns-in-Err-Logs-clause-stopped g c = inr
    (front (g.L.LogSource.folder c.carry_out.new.logs) (λ asked rows. Stops (kind_of g.G.Stage.state g.G.Stage.ended) asked c.args.stage.now rows c.carry_out.new.stage) (asked_with c.args.into c.args.wanted c.args.moment.seconds (query_of c.args.query.now)) c.args.spec.now c.args.moment.seconds (query_of c.args.query.now)
    c.args.format c.args.waits (planned_query c.in-Ok.plan) c.as_slice.result.now c.args.spans.now (asked_of c.in-Ok-output_over.output) c.as_slice.ensures c.in-Ok.ensures.plan c.in-Ok-output_over.ensures.asked c.in-Err-Logs.ensures.stops)

pub returns-in-Err-Output-clause-stopped : goal.returns-in-Err-Output-clause-stopped
returns-in-Err-Output-clause-stopped g c = inr
    (front (g.L.LogSource.folder c.carry_out.new.logs) (λ asked rows. Stops (kind_of g.G.Stage.state g.G.Stage.ended) asked c.args.stage.now rows c.carry_out.new.stage) (asked_with c.args.into c.args.wanted c.args.moment.seconds (query_of c.args.query.now)) c.args.spec.now c.args.moment.seconds (query_of c.args.query.now)
    c.args.format c.args.waits (planned_query c.in-Ok.plan) c.as_slice.result.now c.args.spans.now (asked_of c.in-Ok-output_over.output) c.as_slice.ensures c.in-Ok.ensures.plan c.in-Ok-output_over.ensures.asked c.in-Err-Output.ensures.stops)

pub returns-in-Err-Refused-clause-stopped : goal.returns-in-Err-Refused-clause-stopped
returns-in-Err-Refused-clause-stopped g c = inr
    (front (g.L.LogSource.folder c.carry_out.new.logs) (λ asked rows. Stops (kind_of g.G.Stage.state g.G.Stage.ended) asked c.args.stage.now rows c.carry_out.new.stage) (asked_with c.args.into c.args.wanted c.args.moment.seconds (query_of c.args.query.now)) c.args.spec.now c.args.moment.seconds (query_of c.args.query.now)
    c.args.format c.args.waits (planned_query c.in-Ok.plan) c.as_slice.result.now c.args.spans.now (asked_of c.in-Ok-output_over.output) c.as_slice.ensures c.in-Ok.ensures.plan c.in-Ok-output_over.ensures.asked c.in-Err-Refused.ensures.stops)

pub returns-clause-stopped : goal.returns-clause-stopped
returns-clause-stopped g c = inr
    (front (g.L.LogSource.folder c.carry_out.new.logs) (λ asked rows. Stops (kind_of g.G.Stage.state g.G.Stage.ended) asked c.args.stage.now rows c.carry_out.new.stage) (asked_with c.args.into c.args.wanted c.args.moment.seconds (query_of c.args.query.now)) c.args.spec.now c.args.moment.seconds (query_of c.args.query.now)
    c.args.format c.args.waits (planned_query c.in-Ok.plan) c.as_slice.result.now c.args.spans.now (asked_of c.in-Ok-output_over.output) c.as_slice.ensures c.in-Ok.ensures.plan c.in-Ok-output_over.ensures.asked c.in-Err-Bad.ensures.stops)

pub returns-in-Err-Refused-clause-refused : goal.returns-in-Err-Refused-clause-refused
returns-in-Err-Refused-clause-refused g c =
    rw c.in-Err-Refused.field-0-is (unplaced (g.L.LogSource.folder c.carry_out.new.logs) (asked_with c.args.into c.args.wanted c.args.moment.seconds (query_of c.args.query.now)) c.args.spec.now c.args.moment.seconds (query_of c.args.query.now)
    c.args.format c.args.waits (planned_query c.in-Ok.plan) c.as_slice.result.now c.args.spans.now (asked_of c.in-Ok-output_over.output) c.args.budget c.in-Err-Refused.why c.as_slice.ensures c.in-Ok.ensures.plan c.in-Ok-output_over.ensures.asked c.requires.budget
    (rw c.in-Err-Refused.field-0-is at c.in-Err-Refused.ensures.refused) (rw c.in-Err-Refused.field-0-is at c.in-Err-Refused.ensures.in_turn))

pub returns-in-Some-clause-stopped : goal.returns-in-Some-clause-stopped
returns-in-Some-clause-stopped g c = inr
    (front (g.L.LogSource.folder c.carry_out.new.logs) (λ asked rows. Stops (kind_of g.G.Stage.state g.G.Stage.ended) asked c.args.stage.now rows c.carry_out.new.stage) (asked_with c.args.into c.args.wanted c.args.moment.seconds (query_of c.args.query.now)) c.args.spec.now c.args.moment.seconds (query_of c.args.query.now)
    c.args.format c.args.waits (planned_query c.in-Ok.plan) c.as_slice.result.now c.args.spans.now (asked_of c.in-Ok-output_over.output) c.as_slice.ensures c.in-Ok.ensures.plan c.in-Ok-output_over.ensures.asked c.in-Err-Bad.ensures.stops)

pub returns-in-Some-clause-parse : goal.returns-in-Some-clause-parse
returns-in-Some-clause-parse g c =
    rw c.in-Err-Bad.field-0-is (parse_error (g.L.LogSource.folder c.carry_out.new.logs) (asked_with c.args.into c.args.wanted c.args.moment.seconds (query_of c.args.query.now)) c.args.spec.now c.args.moment.seconds (query_of c.args.query.now)
    c.args.format c.args.waits (planned_query c.in-Ok.plan) c.as_slice.result.now c.args.spans.now (asked_of c.in-Ok-output_over.output) c.in-Some.field-0 c.args.budget _ _ c.as_slice.ensures c.in-Ok.ensures.plan c.in-Ok-output_over.ensures.asked c.in-Some.is c.requires.budget
    (rw c.in-Err-Bad.field-0-is at c.in-Err-Bad.ensures.named) (rw c.in-Err-Bad.field-0-is at c.in-Err-Bad.ensures.too_many) (rw c.in-Err-Bad.field-0-is at c.in-Err-Bad.ensures.placed))

pub returns-in-Ok-carry_out-clause-passes : goal.returns-in-Ok-carry_out-clause-passes
returns-in-Ok-carry_out-clause-passes g c = inr
    (passed (kind_of g.G.Stage.state g.G.Stage.ended) g.G.Stage.goes (g.L.LogSource.folder c.carry_out.new.logs) (asked_with c.args.into c.args.wanted c.args.moment.seconds (query_of c.args.query.now)) c.args.moment.seconds (query_of c.args.query.now)
    c.args.format c.args.waits (planned_query c.in-Ok.plan) c.as_slice.result.now c.args.spans.now (asked_of c.in-Ok-output_over.output) _ _ c.args.stage.now c.carry_out.new.stage c.as_slice.ensures c.in-Ok.ensures.plan c.in-Ok-output_over.ensures.asked c.carry_out.ensures.ahead)

pub returns-in-Err-Memory-clause-passes : goal.returns-in-Err-Memory-clause-passes
returns-in-Err-Memory-clause-passes g c = inr
    (passed (kind_of g.G.Stage.state g.G.Stage.ended) g.G.Stage.goes (g.L.LogSource.folder c.carry_out.new.logs) (asked_with c.args.into c.args.wanted c.args.moment.seconds (query_of c.args.query.now)) c.args.moment.seconds (query_of c.args.query.now)
    c.args.format c.args.waits (planned_query c.in-Ok.plan) c.as_slice.result.now c.args.spans.now (asked_of c.in-Ok-output_over.output) _ _ c.args.stage.now c.carry_out.new.stage c.as_slice.ensures c.in-Ok.ensures.plan c.in-Ok-output_over.ensures.asked c.carry_out.ensures.ahead)

pub returns-in-Err-Logs-clause-passes : goal.returns-in-Err-Logs-clause-passes
returns-in-Err-Logs-clause-passes g c = inr
    (passed (kind_of g.G.Stage.state g.G.Stage.ended) g.G.Stage.goes (g.L.LogSource.folder c.carry_out.new.logs) (asked_with c.args.into c.args.wanted c.args.moment.seconds (query_of c.args.query.now)) c.args.moment.seconds (query_of c.args.query.now)
    c.args.format c.args.waits (planned_query c.in-Ok.plan) c.as_slice.result.now c.args.spans.now (asked_of c.in-Ok-output_over.output) _ _ c.args.stage.now c.carry_out.new.stage c.as_slice.ensures c.in-Ok.ensures.plan c.in-Ok-output_over.ensures.asked c.carry_out.ensures.ahead)

pub returns-in-Err-Output-clause-passes : goal.returns-in-Err-Output-clause-passes
returns-in-Err-Output-clause-passes g c = inr
    (passed (kind_of g.G.Stage.state g.G.Stage.ended) g.G.Stage.goes (g.L.LogSource.folder c.carry_out.new.logs) (asked_with c.args.into c.args.wanted c.args.moment.seconds (query_of c.args.query.now)) c.args.moment.seconds (query_of c.args.query.now)
    c.args.format c.args.waits (planned_query c.in-Ok.plan) c.as_slice.result.now c.args.spans.now (asked_of c.in-Ok-output_over.output) _ _ c.args.stage.now c.carry_out.new.stage c.as_slice.ensures c.in-Ok.ensures.plan c.in-Ok-output_over.ensures.asked c.carry_out.ensures.ahead)

pub returns-in-Err-Refused-clause-passes : goal.returns-in-Err-Refused-clause-passes
returns-in-Err-Refused-clause-passes g c = inr
    (passed (kind_of g.G.Stage.state g.G.Stage.ended) g.G.Stage.goes (g.L.LogSource.folder c.carry_out.new.logs) (asked_with c.args.into c.args.wanted c.args.moment.seconds (query_of c.args.query.now)) c.args.moment.seconds (query_of c.args.query.now)
    c.args.format c.args.waits (planned_query c.in-Ok.plan) c.as_slice.result.now c.args.spans.now (asked_of c.in-Ok-output_over.output) _ _ c.args.stage.now c.carry_out.new.stage c.as_slice.ensures c.in-Ok.ensures.plan c.in-Ok-output_over.ensures.asked c.carry_out.ensures.ahead)

pub returns-in-Some-clause-passes : goal.returns-in-Some-clause-passes
returns-in-Some-clause-passes g c = inr
    (passed (kind_of g.G.Stage.state g.G.Stage.ended) g.G.Stage.goes (g.L.LogSource.folder c.carry_out.new.logs) (asked_with c.args.into c.args.wanted c.args.moment.seconds (query_of c.args.query.now)) c.args.moment.seconds (query_of c.args.query.now)
    c.args.format c.args.waits (planned_query c.in-Ok.plan) c.as_slice.result.now c.args.spans.now (asked_of c.in-Ok-output_over.output) _ _ c.args.stage.now c.carry_out.new.stage c.as_slice.ensures c.in-Ok.ensures.plan c.in-Ok-output_over.ensures.asked c.carry_out.ensures.ahead)

pub returns-clause-passes : goal.returns-clause-passes
returns-clause-passes g c = inr
    (passed (kind_of g.G.Stage.state g.G.Stage.ended) g.G.Stage.goes (g.L.LogSource.folder c.carry_out.new.logs) (asked_with c.args.into c.args.wanted c.args.moment.seconds (query_of c.args.query.now)) c.args.moment.seconds (query_of c.args.query.now)
    c.args.format c.args.waits (planned_query c.in-Ok.plan) c.as_slice.result.now c.args.spans.now (asked_of c.in-Ok-output_over.output) _ _ c.args.stage.now c.carry_out.new.stage c.as_slice.ensures c.in-Ok.ensures.plan c.in-Ok-output_over.ensures.asked c.carry_out.ensures.ahead)

pub returns-in-Err-clause-passes : goal.returns-in-Err-clause-passes
returns-in-Err-clause-passes g c = inl refl

pub returns-in_default-clause-passes : goal.returns-in_default-clause-passes
returns-in_default-clause-passes g c = inl refl

pub returns-in-Err-Refused-clause-unread : goal.returns-in-Err-Refused-clause-unread
returns-in-Err-Refused-clause-unread g c =
    rw c.in-Err-Refused.field-0-is (named_first (asked_with c.args.into c.args.wanted c.args.moment.seconds (query_of c.args.query.now)) c.args.moment.seconds (query_of c.args.query.now) c.args.format (planned_query c.in-Ok.plan) (asked_of c.in-Ok-output_over.output) _ _
    c.in-Ok.ensures.plan c.in-Ok-output_over.ensures.asked (rw c.in-Err-Refused.field-0-is at c.in-Err-Refused.ensures.unread))

pub returns-in-Err-clause-plan_in_turn : goal.returns-in-Err-clause-plan_in_turn
returns-in-Err-clause-plan_in_turn g c =
    let told = g.L.LogSource.folder c.args.logs.now in
    let q = query_of c.args.query.now in
    let So : Type 0 = IsTypedInTurn (F.Tabled c.args.format) c.args.waits told c.args.spec.now q c.args.spans.now in
    plan_each {T = Ran} (Err c.unplanned.result) So (typed_first told c.args.spec.now q c.args.format c.args.waits c.args.spans.now c.args.budget c.requires.budget)
