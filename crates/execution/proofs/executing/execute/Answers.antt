use Rattle.std.proofs.Common.{◌≡◌, true, map, IfOk, OnErr, inl, refl, sym, ◌∙◌, subst, FitsSigned, w64}
use Rattle.std.proofs.lemmas.Int.{to_z-of_z}
use Rattle.lp_model.proofs.Growing.{OnlyGrow-refl}
use Rattle.any_format.specs.Wanted.{wanted_text}
use Rattle.lp_model.specs.Outside.{Told}
use Rattle.log_reading.specs.Spans.{AreKept, BadLine, took_of}
use Rattle.text_output.specs.Output.{kind_of}
use Rattle.query_tree.specs.Views.{query_of}
use Rattle.query_types.specs.declared.fault.TypeFault.{TypeFault}
use Rattle.row_output.specs.Asked.{Asked}
use Rattle.row_output.specs.Rows.{Holds, Stops}
use Rattle.row_output.specs.Sinks.{files_for}
use Rattle.row_output.specs.declared.fault.Refused.{Refused}
use Rattle.execution.specs.declared.fault.Ran.{Ran}
use Rattle.execution.specs.declared.formats.LogFormat.{LogFormat}
use Rattle.execution.specs.declared.formats.LogFormat.TheVariants as F
use Rattle.execution.specs.Executed.{IsExecuted, IsNamedFirst, IsParseError, IsStopped, IsTypedInTurn, IsUnplaced, IsUnplanned, IsUntouched}
use Rattle.execution.specs.Faults.{IfParse, IfPlan, IfRefused}
use Rattle.execution.specs.Formats.{input_of, lines_in, log_format}
use Rattle.execution.specs.Outputs.{asked_in}
use Rattle.execution.specs.Passing.{ReadsInPass}
use Rattle.execution.specs.Plans.{PlannedQuery, asked_for}
use Rattle.execution.specs.Texts.{sections_in}
use Rattle.execution.proofs.Asking.{as_asked, stopped_at_once}
use Rattle.execution.proofs.InTurns.{refused_each}
use Rattle.execution.proofs.FormatLemmas.{separated}
use Rattle.execution.proofs.OnePasses.{passed_spans}
use Rattle.execution.proofs.executing.execute.Goals as goal

pub execute_sampled-requires-clause-separator : goal.execute_sampled-requires-clause-separator
execute_sampled-requires-clause-separator g c =
    separated c.args.spec.now (input_of c.args.spec.now (query_of c.args.query.now)) c.in-Sampled.options c.in-Sampled.limit c.requires.range.separator (sym c.log_format.ensures ∙ c.in-Sampled.is)

pub returns-in_default-clause-grows : goal.returns-in_default-clause-grows
returns-in_default-clause-grows g c = OnlyGrow-refl _

pub returns-in_default-clause-stopped : goal.returns-in_default-clause-stopped
returns-in_default-clause-stopped g c = stopped_at_once (log_format c.args.spec.now (query_of c.args.query.now)) c.args.waits _ _ _ _ c.args.spec.now c.args.moment (query_of c.args.query.now) c.args.spans.now refl

pub returns-in-Tabled-clause-ran : goal.returns-in-Tabled-clause-ran
returns-in-Tabled-clause-ran g c =
    let range : FitsSigned w64 c.args.moment = c.ranges.moment in
    let told = g.L.LogSource.folder c.execute_tabled.new.logs in
    let kind = kind_of g.G.Stage.state g.G.Stage.ended in
    let u = c.args.stage.now in
    let v = c.execute_tabled.new.stage in
    let q = query_of c.args.query.now in
    let Of : LogFormat → (PlannedQuery → Asked) → Type 0 = λ f a. IfOk c.execute_tabled.result (λ (ran : Ran). IsExecuted f c.args.waits told (λ asked rows. Holds kind asked u rows ran.outputs v) a c.args.spec.now c.args.moment q c.args.spans.now ran.counts) in
    let asked = as_asked c.args.spec.now q c.args.spans.now c.output_of.result _ c.args.moment (files_for c.in-Ok.into) (wanted_text c.wanted_as-wanted.result c.args.moment) c.in-Ok.ensures.files c.output_of.ensures (c.wanted_as-wanted.ensures c.args.moment) in
    subst (λ (a : PlannedQuery → Asked). Of (log_format c.args.spec.now q) a) asked
    (subst (λ (f : LogFormat). Of f (asked_for (files_for c.in-Ok.into) (wanted_text c.wanted_as-wanted.result c.args.moment) q)) (sym c.in-Tabled.is ∙ c.log_format.ensures) (simp to_z-of_z at c.execute_tabled.ensures.ran))

pub returns-in-Tabled-clause-stopped : goal.returns-in-Tabled-clause-stopped
returns-in-Tabled-clause-stopped g c =
    let range : FitsSigned w64 c.args.moment = c.ranges.moment in
    let told = g.L.LogSource.folder c.execute_tabled.new.logs in
    let kind = kind_of g.G.Stage.state g.G.Stage.ended in
    let u = c.args.stage.now in
    let v = c.execute_tabled.new.stage in
    let q = query_of c.args.query.now in
    let Of : LogFormat → (PlannedQuery → Asked) → Type 0 = λ f a. OnErr c.execute_tabled.result (IsStopped f c.args.waits told (v ≡ u) (λ asked rows. Stops kind asked u rows v) a c.args.spec.now c.args.moment q c.args.spans.now) in
    let asked = as_asked c.args.spec.now q c.args.spans.now c.output_of.result _ c.args.moment (files_for c.in-Ok.into) (wanted_text c.wanted_as-wanted.result c.args.moment) c.in-Ok.ensures.files c.output_of.ensures (c.wanted_as-wanted.ensures c.args.moment) in
    subst (λ (a : PlannedQuery → Asked). Of (log_format c.args.spec.now q) a) asked
    (subst (λ (f : LogFormat). Of f (asked_for (files_for c.in-Ok.into) (wanted_text c.wanted_as-wanted.result c.args.moment) q)) (sym c.in-Tabled.is ∙ c.log_format.ensures) (simp to_z-of_z at c.execute_tabled.ensures.stopped))

pub returns-in-Tabled-clause-refused : goal.returns-in-Tabled-clause-refused
returns-in-Tabled-clause-refused g c =
    let range : FitsSigned w64 c.args.moment = c.ranges.moment in
    let told = g.L.LogSource.folder c.execute_tabled.new.logs in
    let q = query_of c.args.query.now in
    let Of : LogFormat → (PlannedQuery → Asked) → Type 0 = λ f a. IfRefused c.execute_tabled.result (λ (why : Refused). IsUnplaced f c.args.waits told a c.args.spec.now c.args.moment q c.args.spans.now why) in
    let asked = as_asked c.args.spec.now q c.args.spans.now c.output_of.result _ c.args.moment (files_for c.in-Ok.into) (wanted_text c.wanted_as-wanted.result c.args.moment) c.in-Ok.ensures.files c.output_of.ensures (c.wanted_as-wanted.ensures c.args.moment) in
    subst (λ (a : PlannedQuery → Asked). Of (log_format c.args.spec.now q) a) asked
    (subst (λ (f : LogFormat). Of f (asked_for (files_for c.in-Ok.into) (wanted_text c.wanted_as-wanted.result c.args.moment) q)) (sym c.in-Tabled.is ∙ c.log_format.ensures) (simp to_z-of_z at c.execute_tabled.ensures.refused))

pub returns-in-Tabled-clause-plan : goal.returns-in-Tabled-clause-plan
returns-in-Tabled-clause-plan g c =
    let range : FitsSigned w64 c.args.moment = c.ranges.moment in
    let told = g.L.LogSource.folder c.execute_tabled.new.logs in
    subst (λ (f : LogFormat). IfPlan c.execute_tabled.result (λ (fault : TypeFault). IsUnplanned f c.args.waits told c.args.spec.now c.args.moment (query_of c.args.query.now) c.args.spans.now fault)) (sym c.in-Tabled.is ∙ c.log_format.ensures) (simp to_z-of_z at c.execute_tabled.ensures.plan)

pub returns-in-Tabled-clause-before : goal.returns-in-Tabled-clause-before
returns-in-Tabled-clause-before g c =
    let told = g.L.LogSource.folder c.execute_tabled.new.logs in
    subst (λ (f : LogFormat). IfPlan c.execute_tabled.result (λ (fault : TypeFault). IsUntouched f c.args.waits told (c.execute_tabled.new.stage ≡ c.args.stage.now) c.args.spec.now c.args.spans.now)) (sym c.in-Tabled.is ∙ c.log_format.ensures) c.execute_tabled.ensures.before

pub returns-in-Tabled-clause-parse : goal.returns-in-Tabled-clause-parse
returns-in-Tabled-clause-parse g c =
    let range : FitsSigned w64 c.args.moment = c.ranges.moment in
    let told = g.L.LogSource.folder c.execute_tabled.new.logs in
    let q = query_of c.args.query.now in
    let Of : LogFormat → (PlannedQuery → Asked) → Type 0 = λ f a. IfParse c.execute_tabled.result (λ (line : BadLine). IsParseError f c.args.waits told (c.execute_tabled.new.stage ≡ c.args.stage.now) a c.args.spec.now c.args.moment q c.args.spans.now line) in
    let asked = as_asked c.args.spec.now q c.args.spans.now c.output_of.result _ c.args.moment (files_for c.in-Ok.into) (wanted_text c.wanted_as-wanted.result c.args.moment) c.in-Ok.ensures.files c.output_of.ensures (c.wanted_as-wanted.ensures c.args.moment) in
    subst (λ (a : PlannedQuery → Asked). Of (log_format c.args.spec.now q) a) asked
    (subst (λ (f : LogFormat). Of f (asked_for (files_for c.in-Ok.into) (wanted_text c.wanted_as-wanted.result c.args.moment) q)) (sym c.in-Tabled.is ∙ c.log_format.ensures) (simp to_z-of_z at c.execute_tabled.ensures.parse))

pub returns-in-Tabled-clause-took : goal.returns-in-Tabled-clause-took
returns-in-Tabled-clause-took g c =
    let told = g.L.LogSource.folder c.execute_tabled.new.logs in
    subst (λ (f : LogFormat). IfOk c.execute_tabled.result (λ (ran : Ran). Told told (λ folder. AreKept (lines_in f) c.args.waits c.args.spans.now folder → ran.took ≡ map (took_of (lines_in f) c.args.waits folder) c.args.spans.now))) (sym c.in-Tabled.is ∙ c.log_format.ensures) c.execute_tabled.ensures.took

pub returns-in-Sampled-clause-ran : goal.returns-in-Sampled-clause-ran
returns-in-Sampled-clause-ran g c =
    let range : FitsSigned w64 c.args.moment = c.ranges.moment in
    let told = g.L.LogSource.folder c.execute_sampled.new.logs in
    let kind = kind_of g.G.Stage.state g.G.Stage.ended in
    let u = c.args.stage.now in
    let v = c.execute_sampled.new.stage in
    let q = query_of c.args.query.now in
    let Of : LogFormat → (PlannedQuery → Asked) → Type 0 = λ f a. IfOk c.execute_sampled.result (λ (ran : Ran). IsExecuted f c.args.waits told (λ asked rows. Holds kind asked u rows ran.outputs v) a c.args.spec.now c.args.moment q c.args.spans.now ran.counts) in
    let asked = as_asked c.args.spec.now q c.args.spans.now c.output_of.result _ c.args.moment (files_for c.in-Ok.into) (wanted_text c.wanted_as-wanted.result c.args.moment) c.in-Ok.ensures.files c.output_of.ensures (c.wanted_as-wanted.ensures c.args.moment) in
    subst (λ (a : PlannedQuery → Asked). Of (log_format c.args.spec.now q) a) asked
    (subst (λ (f : LogFormat). Of f (asked_for (files_for c.in-Ok.into) (wanted_text c.wanted_as-wanted.result c.args.moment) q)) (sym c.in-Sampled.is ∙ c.log_format.ensures) (simp to_z-of_z at c.execute_sampled.ensures.ran))

pub returns-in-Sampled-clause-stopped : goal.returns-in-Sampled-clause-stopped
returns-in-Sampled-clause-stopped g c =
    let range : FitsSigned w64 c.args.moment = c.ranges.moment in
    let told = g.L.LogSource.folder c.execute_sampled.new.logs in
    let kind = kind_of g.G.Stage.state g.G.Stage.ended in
    let u = c.args.stage.now in
    let v = c.execute_sampled.new.stage in
    let q = query_of c.args.query.now in
    let Of : LogFormat → (PlannedQuery → Asked) → Type 0 = λ f a. OnErr c.execute_sampled.result (IsStopped f c.args.waits told (v ≡ u) (λ asked rows. Stops kind asked u rows v) a c.args.spec.now c.args.moment q c.args.spans.now) in
    let asked = as_asked c.args.spec.now q c.args.spans.now c.output_of.result _ c.args.moment (files_for c.in-Ok.into) (wanted_text c.wanted_as-wanted.result c.args.moment) c.in-Ok.ensures.files c.output_of.ensures (c.wanted_as-wanted.ensures c.args.moment) in
    subst (λ (a : PlannedQuery → Asked). Of (log_format c.args.spec.now q) a) asked
    (subst (λ (f : LogFormat). Of f (asked_for (files_for c.in-Ok.into) (wanted_text c.wanted_as-wanted.result c.args.moment) q)) (sym c.in-Sampled.is ∙ c.log_format.ensures) (simp to_z-of_z at c.execute_sampled.ensures.stopped))

pub returns-in-Sampled-clause-refused : goal.returns-in-Sampled-clause-refused
returns-in-Sampled-clause-refused g c =
    let range : FitsSigned w64 c.args.moment = c.ranges.moment in
    let told = g.L.LogSource.folder c.execute_sampled.new.logs in
    let q = query_of c.args.query.now in
    let Of : LogFormat → (PlannedQuery → Asked) → Type 0 = λ f a. IfRefused c.execute_sampled.result (λ (why : Refused). IsUnplaced f c.args.waits told a c.args.spec.now c.args.moment q c.args.spans.now why) in
    let asked = as_asked c.args.spec.now q c.args.spans.now c.output_of.result _ c.args.moment (files_for c.in-Ok.into) (wanted_text c.wanted_as-wanted.result c.args.moment) c.in-Ok.ensures.files c.output_of.ensures (c.wanted_as-wanted.ensures c.args.moment) in
    subst (λ (a : PlannedQuery → Asked). Of (log_format c.args.spec.now q) a) asked
    (subst (λ (f : LogFormat). Of f (asked_for (files_for c.in-Ok.into) (wanted_text c.wanted_as-wanted.result c.args.moment) q)) (sym c.in-Sampled.is ∙ c.log_format.ensures) (simp to_z-of_z at c.execute_sampled.ensures.refused))

pub returns-in-Sampled-clause-plan : goal.returns-in-Sampled-clause-plan
returns-in-Sampled-clause-plan g c =
    let range : FitsSigned w64 c.args.moment = c.ranges.moment in
    let told = g.L.LogSource.folder c.execute_sampled.new.logs in
    subst (λ (f : LogFormat). IfPlan c.execute_sampled.result (λ (fault : TypeFault). IsUnplanned f c.args.waits told c.args.spec.now c.args.moment (query_of c.args.query.now) c.args.spans.now fault)) (sym c.in-Sampled.is ∙ c.log_format.ensures) (simp to_z-of_z at c.execute_sampled.ensures.plan)

pub returns-in-Sampled-clause-before : goal.returns-in-Sampled-clause-before
returns-in-Sampled-clause-before g c =
    let told = g.L.LogSource.folder c.execute_sampled.new.logs in
    subst (λ (f : LogFormat). IfPlan c.execute_sampled.result (λ (fault : TypeFault). IsUntouched f c.args.waits told (c.execute_sampled.new.stage ≡ c.args.stage.now) c.args.spec.now c.args.spans.now)) (sym c.in-Sampled.is ∙ c.log_format.ensures) c.execute_sampled.ensures.before

pub returns-in-Sampled-clause-parse : goal.returns-in-Sampled-clause-parse
returns-in-Sampled-clause-parse g c =
    let range : FitsSigned w64 c.args.moment = c.ranges.moment in
    let told = g.L.LogSource.folder c.execute_sampled.new.logs in
    let q = query_of c.args.query.now in
    let Of : LogFormat → (PlannedQuery → Asked) → Type 0 = λ f a. IfParse c.execute_sampled.result (λ (line : BadLine). IsParseError f c.args.waits told (c.execute_sampled.new.stage ≡ c.args.stage.now) a c.args.spec.now c.args.moment q c.args.spans.now line) in
    let asked = as_asked c.args.spec.now q c.args.spans.now c.output_of.result _ c.args.moment (files_for c.in-Ok.into) (wanted_text c.wanted_as-wanted.result c.args.moment) c.in-Ok.ensures.files c.output_of.ensures (c.wanted_as-wanted.ensures c.args.moment) in
    subst (λ (a : PlannedQuery → Asked). Of (log_format c.args.spec.now q) a) asked
    (subst (λ (f : LogFormat). Of f (asked_for (files_for c.in-Ok.into) (wanted_text c.wanted_as-wanted.result c.args.moment) q)) (sym c.in-Sampled.is ∙ c.log_format.ensures) (simp to_z-of_z at c.execute_sampled.ensures.parse))

pub returns-in-Sampled-clause-took : goal.returns-in-Sampled-clause-took
returns-in-Sampled-clause-took g c =
    let told = g.L.LogSource.folder c.execute_sampled.new.logs in
    subst (λ (f : LogFormat). IfOk c.execute_sampled.result (λ (ran : Ran). Told told (λ folder. AreKept (lines_in f) c.args.waits c.args.spans.now folder → ran.took ≡ map (took_of (lines_in f) c.args.waits folder) c.args.spans.now))) (sym c.in-Sampled.is ∙ c.log_format.ensures) c.execute_sampled.ensures.took

pub returns-in_default-clause-one_pass : goal.returns-in_default-clause-one_pass
returns-in_default-clause-one_pass g c = λ format passes. inl refl

pub returns-in-Tabled-clause-one_pass : goal.returns-in-Tabled-clause-one_pass
returns-in-Tabled-clause-one_pass g c = λ format passes.
    let range : FitsSigned w64 c.args.moment = c.ranges.moment in
    let kind = kind_of g.G.Stage.state g.G.Stage.ended in
    let q = query_of c.args.query.now in
    let Of : LogFormat → (PlannedQuery → Asked) → Type 0 = λ f a. ReadsInPass kind g.G.Stage.goes f c.args.waits (g.L.LogSource.folder c.execute_tabled.new.logs) a c.args.moment q c.args.spans.now (g.L.LogSource.given c.args.logs.now) (g.L.LogSource.given c.execute_tabled.new.logs) c.args.stage.now c.execute_tabled.new.stage in
    let asked = as_asked c.args.spec.now q c.args.spans.now c.output_of.result _ c.args.moment (files_for c.in-Ok.into) (wanted_text c.wanted_as-wanted.result c.args.moment) c.in-Ok.ensures.files c.output_of.ensures (c.wanted_as-wanted.ensures c.args.moment) in
    passed_spans kind g.G.Stage.goes g.met.G.Stage.keeps_taken c.args.spec.now (sections_in (λ t. t.value) c.args.template) c.args.moment q format c.args.waits (g.L.LogSource.folder c.execute_tabled.new.logs) c.args.spans.now (g.L.LogSource.given c.args.logs.now) (g.L.LogSource.given c.execute_tabled.new.logs) c.args.stage.now c.execute_tabled.new.stage passes
    (subst (λ (a : PlannedQuery → Asked). Of (log_format c.args.spec.now q) a) asked
    (subst (λ (f : LogFormat). Of f (asked_for (files_for c.in-Ok.into) (wanted_text c.wanted_as-wanted.result c.args.moment) q)) (sym c.in-Tabled.is ∙ c.log_format.ensures) (simp to_z-of_z at c.execute_tabled.ensures.passes)))

pub returns-in-Sampled-clause-one_pass : goal.returns-in-Sampled-clause-one_pass
returns-in-Sampled-clause-one_pass g c = λ format passes.
    let tabled : F.Sampled c.in-Sampled.options c.in-Sampled.limit ≡ F.Tabled format = sym c.in-Sampled.is ∙ (c.log_format.ensures ∙ passes.input) in
    absurd cc

pub returns-in-Tabled-clause-plan_in_turn : goal.returns-in-Tabled-clause-plan_in_turn
returns-in-Tabled-clause-plan_in_turn g c =
    let told = g.L.LogSource.folder c.execute_tabled.new.logs in
    subst (λ (f : LogFormat). IfPlan c.execute_tabled.result (λ (fault : TypeFault). IsTypedInTurn f c.args.waits told c.args.spec.now (query_of c.args.query.now) c.args.spans.now)) (sym c.in-Tabled.is ∙ c.log_format.ensures) c.execute_tabled.ensures.plan_in_turn

pub returns-in-Sampled-clause-plan_in_turn : goal.returns-in-Sampled-clause-plan_in_turn
returns-in-Sampled-clause-plan_in_turn g c =
    let told = g.L.LogSource.folder c.execute_sampled.new.logs in
    subst (λ (f : LogFormat). IfPlan c.execute_sampled.result (λ (fault : TypeFault). IsTypedInTurn f c.args.waits told c.args.spec.now (query_of c.args.query.now) c.args.spans.now)) (sym c.in-Sampled.is ∙ c.log_format.ensures) c.execute_sampled.ensures.plan_in_turn

pub returns-in-Tabled-clause-unread : goal.returns-in-Tabled-clause-unread
returns-in-Tabled-clause-unread g c =
    let range : FitsSigned w64 c.args.moment = c.ranges.moment in
    let q = query_of c.args.query.now in
    let Of : LogFormat → (PlannedQuery → Asked) → Type 0 = λ f a. IfRefused c.execute_tabled.result (λ (why : Refused). IsNamedFirst f a c.args.moment q (g.L.LogSource.given c.execute_tabled.new.logs ≡ g.L.LogSource.given c.args.logs.now) why) in
    let asked = as_asked c.args.spec.now q c.args.spans.now c.output_of.result _ c.args.moment (files_for c.in-Ok.into) (wanted_text c.wanted_as-wanted.result c.args.moment) c.in-Ok.ensures.files c.output_of.ensures (c.wanted_as-wanted.ensures c.args.moment) in
    subst (λ (a : PlannedQuery → Asked). Of (log_format c.args.spec.now q) a) asked
    (subst (λ (f : LogFormat). Of f (asked_for (files_for c.in-Ok.into) (wanted_text c.wanted_as-wanted.result c.args.moment) q)) (sym c.in-Tabled.is ∙ c.log_format.ensures) (simp to_z-of_z at c.execute_tabled.ensures.unread))

pub returns-in-Sampled-clause-unread : goal.returns-in-Sampled-clause-unread
returns-in-Sampled-clause-unread g c =
    let q = query_of c.args.query.now in
    let asked : PlannedQuery → Asked = asked_in c.args.spec.now (sections_in (λ t. t.value) c.args.template) c.args.moment q c.args.spans.now in
    subst (λ (f : LogFormat). IfRefused c.execute_sampled.result (λ (why : Refused). IsNamedFirst f asked c.args.moment q (g.L.LogSource.given c.execute_sampled.new.logs ≡ g.L.LogSource.given c.args.logs.now) why)) (sym c.in-Sampled.is ∙ c.log_format.ensures)
    (refused_each c.execute_sampled.result)
