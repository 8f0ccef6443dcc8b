use Rattle.std.proofs.Common.{◌≡◌, ◌≤◌, Bool, true≢false, Err, Option, inl, inr, refl, ap, arith, sym, ◌∙◌, subst, FitsSigned, w64}
use Rattle.std.proofs.lemmas.Int.{to_z-of_z}
use Rattle.query_tree.specs.Views.{query_of}
use Rattle.lp_model.specs.Outside.{Folder, Rose}
use Rattle.lp_model.proofs.Growing.{OnlyGrow-refl}
use Rattle.reports.specs.declared.status.Status.{Status}
use Rattle.reports.specs.declared.status.Status.TheVariants.{Done}
use Rattle.checkpointed_command.specs.Texts.{sections_in}
use Rattle.file_stage.specs.FileTexts.{AlwaysTells}
use Rattle.tpl_output.specs.Sections.{Sections}
use Rattle.standard_input.specs.Streams.{faults_of, folder_of}
use Rattle.checkpointed_command.specs.Statuses.{stopped}
use Rattle.logparser_cli.specs.Answers.{AnswersInput, AnswersRun, IsStopped}
use Rattle.logparser_cli.specs.Outputs.{OutputRose, World, held, input_at, stream_world, world}
use Rattle.logparser_cli.proofs.Answering.{input_answers, stopped_answers, whole, ended_stops}
use Rattle.logparser_cli.proofs.Streamed.{folder_kept, gave_most, read_on, stream_rose, is_full, stays_short}
use Rattle.logparser_cli.proofs.Wholes.{from_input}
use Rattle.logparser_cli.proofs.OnePasses.{moved_passed, nothing_given, passed_over_input, told_now}
use Rattle.logparser_cli.specs.OnePass.{progress}
use Rattle.logparser_cli.proofs.running.run_input.Goals as goal

pub returns-in-Ok-written-clause-answers : goal.returns-in-Ok-written-clause-answers
returns-in-Ok-written-clause-answers g c = λ folder faults.
    let range : FitsSigned w64 c.args.moment = c.ranges.moment in
    let old : World = world folder faults (held (AlwaysTells g.D.Disk.state) (g.D.Disk.state c.args.disk.now).seen (g.S.Sink.written c.args.out.now)) (g.D.Disk.faults c.args.disk.now) (g.S.Sink.faults c.args.out.now) (g.E.Sink.written c.args.err.now) (g.E.Sink.faults c.args.err.now) (input_at g.I.Source.left g.I.Source.given g.I.Source.faults c.args.input.now) in
    let new : World = world folder faults (held (AlwaysTells g.D.Disk.state) (g.D.Disk.state c.write_rows-written.new.disk).seen (g.S.Sink.written c.write_rows-written.new.out)) (g.D.Disk.faults c.write_rows-written.new.disk) (g.S.Sink.faults c.write_rows-written.new.out) (g.E.Sink.written c.tell_statistics.new.err) (g.E.Sink.faults c.tell_statistics.new.err) (input_at g.I.Source.left g.I.Source.given g.I.Source.faults c.input-1.given.0) in
    let q = query_of c.args.query.now in
    let template : Sections = sections_in (λ t. t.value) c.args.template in
    let files = folder_of g.I.Source.left c.write_rows-written.new.logs in
    inl (
      tt,
      subst (λ (t : Option Folder). AnswersRun (stream_world t old.input.faults old) (stream_world t new.input.faults new) template c.args.spec.now c.args.moment q Done)
          (folder_kept g.I.Source.left g.I.Source.given g.I.Source.faults c.new-log.result c.write_rows-written.new.logs c.args.input.now c.write_rows-written.ensures.goes_logs c.new-log.ensures.none c.new-log.ensures.zero c.new-log.ensures.fresh c.new-log.ensures.same)
          (whole (stream_world files old.input.faults old) (stream_world files new.input.faults new) files template c.args.spec.now c.args.moment q c.in-Ok.spans c.in-Ok-written.ran.counts (from_input files files q c.in-Ok.spans c.requires.stdin c.in-Ok.ensures) (OnlyGrow-refl files) (simp to_z-of_z at c.in-Ok-written.ensures.ran) c.in-Ok-written.ensures.within c.tell_statistics.ensures.told),
    )

pub returns-clause-answers : goal.returns-clause-answers
returns-clause-answers g c = λ folder faults.
    let range : FitsSigned w64 c.args.moment = c.ranges.moment in
    let after = c.input-1.given.0 in
    let first = c.new-log.result in
    let last = c.write_rows-written.new.logs in
    let old : World = world folder faults (held (AlwaysTells g.D.Disk.state) (g.D.Disk.state c.args.disk.now).seen (g.S.Sink.written c.args.out.now)) (g.D.Disk.faults c.args.disk.now) (g.S.Sink.faults c.args.out.now) (g.E.Sink.written c.args.err.now) (g.E.Sink.faults c.args.err.now) (input_at g.I.Source.left g.I.Source.given g.I.Source.faults c.args.input.now) in
    let new : World = world folder faults (held (AlwaysTells g.D.Disk.state) (g.D.Disk.state c.write_rows-written.new.disk).seen (g.S.Sink.written c.write_rows-written.new.out)) (g.D.Disk.faults c.write_rows-written.new.disk) (g.S.Sink.faults c.write_rows-written.new.out) (g.E.Sink.written c.args.err.now) (g.E.Sink.faults c.args.err.now) (input_at g.I.Source.left g.I.Source.given g.I.Source.faults after) in
    let q = query_of c.args.query.now in
    let template : Sections = sections_in (λ t. t.value) c.args.template in
    let files = folder_of g.I.Source.left last in
    let was = faults_of g.I.Source.faults first in
    let now = faults_of g.I.Source.faults last in
    let fault = c.in-Err.fault in
    let goes = c.write_rows-written.ensures.goes_logs in
    let ends : after ≡ last.input.now = c.input-1.given.1 (sym (goes.reference ∙ c.new-log.ensures.same_reference)) ∙ c.drop.ensures in
    let run : AnswersRun (stream_world files was old) (stream_world files now new) template c.args.spec.now c.args.moment q (stopped c.is_standard.result fault) =
    stopped_answers (stream_world files was old) (stream_world files now new) files template c.args.spec.now c.args.moment q c.in-Ok.spans c.is_standard.result fault (sym c.is_standard.ensures) (from_input files files q c.in-Ok.spans c.requires.stdin c.in-Ok.ensures) (OnlyGrow-refl files)
    (simp to_z-of_z at c.in-Err.ensures.stopped) (simp to_z-of_z at c.in-Err.ensures.plan) c.in-Err.ensures.plan_in_turn c.in-Err.ensures.before (simp to_z-of_z at c.in-Err.ensures.parse) (simp to_z-of_z at c.in-Err.ensures.refused)
    (λ e. c.in-Err.ensures.logs (ap Err e)) (λ e. subst (λ (standard : Bool). OutputRose standard (Rose old.disk_faults new.disk_faults) (Rose old.out_faults new.out_faults)) (sym c.is_standard.ensures) (c.in-Err.ensures.failed (ap Err e))) in
    let kept = folder_kept g.I.Source.left g.I.Source.given g.I.Source.faults first last c.args.input.now c.in-Err.ensures.goes_logs c.new-log.ensures.none c.new-log.ensures.zero c.new-log.ensures.fresh c.new-log.ensures.same in
    subst (λ (status : Status). AnswersInput old new template c.args.spec.now c.args.moment q status) (sym c.stopped_input.ensures)
    (input_answers old new template c.args.spec.now c.args.moment q c.is_standard.result fault was now
    (subst (λ (t : Option Folder). AnswersRun (stream_world t was old) (stream_world t now new) template c.args.spec.now c.args.moment q (stopped c.is_standard.result fault)) kept run)
    (λ e. stream_rose g.I.Source.left g.I.Source.given g.I.Source.faults first last c.args.input.now c.in-Err.ensures.goes_logs c.new-log.ensures.none c.new-log.ensures.zero c.new-log.ensures.fresh c.new-log.ensures.same after ends (λ full. absurd (true≢false (sym (c.is_too_long-is_too_long.ensures.told full) ∙ c.if-is_too_long.false))) (c.in-Err.ensures.logs (ap Err e))))

pub returns-then-is_too_long-clause-answers : goal.returns-then-is_too_long-clause-answers
returns-then-is_too_long-clause-answers g c = λ folder faults.
    let range : FitsSigned w64 c.args.moment = c.ranges.moment in
    let after = c.input-1.given.0 in
    let first = c.new-log.result in
    let last = c.write_rows-written.new.logs in
    let old : World = world folder faults (held (AlwaysTells g.D.Disk.state) (g.D.Disk.state c.args.disk.now).seen (g.S.Sink.written c.args.out.now)) (g.D.Disk.faults c.args.disk.now) (g.S.Sink.faults c.args.out.now) (g.E.Sink.written c.args.err.now) (g.E.Sink.faults c.args.err.now) (input_at g.I.Source.left g.I.Source.given g.I.Source.faults c.args.input.now) in
    let new : World = world folder faults (held (AlwaysTells g.D.Disk.state) (g.D.Disk.state c.write_rows-written.new.disk).seen (g.S.Sink.written c.write_rows-written.new.out)) (g.D.Disk.faults c.write_rows-written.new.disk) (g.S.Sink.faults c.write_rows-written.new.out) (g.E.Sink.written c.args.err.now) (g.E.Sink.faults c.args.err.now) (input_at g.I.Source.left g.I.Source.given g.I.Source.faults after) in
    let q = query_of c.args.query.now in
    let template : Sections = sections_in (λ t. t.value) c.args.template in
    let files = folder_of g.I.Source.left last in
    let was = faults_of g.I.Source.faults first in
    let now = faults_of g.I.Source.faults last in
    let goes = c.write_rows-written.ensures.goes_logs in
    let ends : after ≡ last.input.now = c.input-1.given.1 (sym (goes.reference ∙ c.new-log.ensures.same_reference)) ∙ c.drop.ensures in
    let stop : IsStopped (stream_world files was old) (stream_world files now new) template c.args.spec.now c.args.moment q =
    ended_stops (stream_world files was old) (stream_world files now new) files template c.args.spec.now c.args.moment q c.in-Ok.spans c.write_rows-written.result (from_input files files q c.in-Ok.spans c.requires.stdin c.in-Ok.ensures) (OnlyGrow-refl files)
    (simp to_z-of_z at c.write_rows-written.ensures.ran) (simp to_z-of_z at c.write_rows-written.ensures.stopped) in
    let kept = folder_kept g.I.Source.left g.I.Source.given g.I.Source.faults first last c.args.input.now goes c.new-log.ensures.none c.new-log.ensures.zero c.new-log.ensures.fresh c.new-log.ensures.same in
    inr (inr (
      refl,
      subst (λ (t : Option Folder). IsStopped (stream_world t was old) (stream_world t now new) template c.args.spec.now c.args.moment q) kept stop,
      gave_most g.I.Source.left g.I.Source.given g.I.Source.faults first last c.args.input.now goes c.new-log.ensures.none c.new-log.ensures.zero c.new-log.ensures.fresh c.new-log.ensures.same after ends (c.is_too_long-is_too_long.ensures.full c.if-is_too_long.true),
    ))

pub returns-then-is_too_long-clause-read : goal.returns-then-is_too_long-clause-read
returns-then-is_too_long-clause-read g c =
    read_on g.I.Source.left g.I.Source.given g.I.Source.faults c.new-log.result c.write_rows-written.new.logs c.args.input.now c.write_rows-written.ensures.goes_logs c.new-log.ensures.none c.new-log.ensures.zero c.new-log.ensures.fresh c.new-log.ensures.same c.input-1.given.0 (c.input-1.given.1 (sym (c.write_rows-written.ensures.goes_logs.reference ∙ c.new-log.ensures.same_reference)) ∙ c.drop.ensures)

pub returns-in-Ok-written-clause-read : goal.returns-in-Ok-written-clause-read
returns-in-Ok-written-clause-read g c =
    read_on g.I.Source.left g.I.Source.given g.I.Source.faults c.new-log.result c.write_rows-written.new.logs c.args.input.now c.write_rows-written.ensures.goes_logs c.new-log.ensures.none c.new-log.ensures.zero c.new-log.ensures.fresh c.new-log.ensures.same c.input-1.given.0 (c.input-1.given.1 (sym (c.write_rows-written.ensures.goes_logs.reference ∙ c.new-log.ensures.same_reference)) ∙ c.drop.ensures)

pub returns-clause-read : goal.returns-clause-read
returns-clause-read g c =
    read_on g.I.Source.left g.I.Source.given g.I.Source.faults c.new-log.result c.write_rows-written.new.logs c.args.input.now c.in-Err.ensures.goes_logs c.new-log.ensures.none c.new-log.ensures.zero c.new-log.ensures.fresh c.new-log.ensures.same c.input-1.given.0 (c.input-1.given.1 (sym (c.write_rows-written.ensures.goes_logs.reference ∙ c.new-log.ensures.same_reference)) ∙ c.drop.ensures)

pub returns-in_default-clause-one_pass : goal.returns-in_default-clause-one_pass
returns-in_default-clause-one_pass g c = λ folder given format passes.
    nothing_given c.args.spec.now c.args.moment (query_of c.args.query.now) format (progress folder given (input_at g.I.Source.left g.I.Source.given g.I.Source.faults c.args.input.now) (g.S.Sink.written c.args.out.now)) folder given (told_now folder (given ≤ given) (omega arith))

pub returns-in-Ok-written-clause-one_pass : goal.returns-in-Ok-written-clause-one_pass
returns-in-Ok-written-clause-one_pass g c = λ folder given format passes.
    let range : FitsSigned w64 c.args.moment = c.ranges.moment in
    let first = c.new-log.result in
    let last = c.write_rows-written.new.logs in
    let goes = c.write_rows-written.ensures.goes_logs in
    let ends : c.input-1.given.0 ≡ last.input.now = c.input-1.given.1 (sym (goes.reference ∙ c.new-log.ensures.same_reference)) ∙ c.drop.ensures in
    let before = c.args.input.now in
    let q = query_of c.args.query.now in
    let read = read_on g.I.Source.left g.I.Source.given g.I.Source.faults first last before goes c.new-log.ensures.none c.new-log.ensures.zero c.new-log.ensures.fresh c.new-log.ensures.same c.input-1.given.0 ends in
    let kept = folder_kept g.I.Source.left g.I.Source.given g.I.Source.faults first last before goes c.new-log.ensures.none c.new-log.ensures.zero c.new-log.ensures.fresh c.new-log.ensures.same in
    passed_over_input c.args.spec.now c.args.moment q format folder given (input_at g.I.Source.left g.I.Source.given g.I.Source.faults before) (input_at g.I.Source.left g.I.Source.given g.I.Source.faults c.input-1.given.0) (g.S.Sink.written c.args.out.now) (g.S.Sink.written c.write_rows-written.new.out) c.in-Ok.spans passes.goes.output c.requires.stdin c.in-Ok.ensures read
    (moved_passed c.args.spec.now c.args.moment q format c.in-Ok.spans _ _ (folder_of g.I.Source.left last) _ (g.I.Source.given first.input.now) _ (g.I.Source.given last.input.now) _ kept (ap g.I.Source.given c.new-log.ensures.same) (ap g.I.Source.given (sym ends))
    ((simp to_z-of_z at c.write_rows-written.ensures.one_pass) format passes.goes))

pub returns-clause-one_pass : goal.returns-clause-one_pass
returns-clause-one_pass g c = λ folder given format passes.
    let range : FitsSigned w64 c.args.moment = c.ranges.moment in
    let first = c.new-log.result in
    let last = c.write_rows-written.new.logs in
    let goes = c.write_rows-written.ensures.goes_logs in
    let ends : c.input-1.given.0 ≡ last.input.now = c.input-1.given.1 (sym (goes.reference ∙ c.new-log.ensures.same_reference)) ∙ c.drop.ensures in
    let before = c.args.input.now in
    let q = query_of c.args.query.now in
    let read = read_on g.I.Source.left g.I.Source.given g.I.Source.faults first last before goes c.new-log.ensures.none c.new-log.ensures.zero c.new-log.ensures.fresh c.new-log.ensures.same c.input-1.given.0 ends in
    let kept = folder_kept g.I.Source.left g.I.Source.given g.I.Source.faults first last before goes c.new-log.ensures.none c.new-log.ensures.zero c.new-log.ensures.fresh c.new-log.ensures.same in
    passed_over_input c.args.spec.now c.args.moment q format folder given (input_at g.I.Source.left g.I.Source.given g.I.Source.faults before) (input_at g.I.Source.left g.I.Source.given g.I.Source.faults c.input-1.given.0) (g.S.Sink.written c.args.out.now) (g.S.Sink.written c.write_rows-written.new.out) c.in-Ok.spans passes.goes.output c.requires.stdin c.in-Ok.ensures read
    (moved_passed c.args.spec.now c.args.moment q format c.in-Ok.spans _ _ (folder_of g.I.Source.left last) _ (g.I.Source.given first.input.now) _ (g.I.Source.given last.input.now) _ kept (ap g.I.Source.given c.new-log.ensures.same) (ap g.I.Source.given (sym ends))
    ((simp to_z-of_z at c.write_rows-written.ensures.one_pass) format passes.goes))

pub returns-then-is_too_long-clause-one_pass : goal.returns-then-is_too_long-clause-one_pass
returns-then-is_too_long-clause-one_pass g c = λ folder given format passes.
    let range : FitsSigned w64 c.args.moment = c.ranges.moment in
    let first = c.new-log.result in
    let last = c.write_rows-written.new.logs in
    let goes = c.write_rows-written.ensures.goes_logs in
    let ends : c.input-1.given.0 ≡ last.input.now = c.input-1.given.1 (sym (goes.reference ∙ c.new-log.ensures.same_reference)) ∙ c.drop.ensures in
    let before = c.args.input.now in
    let q = query_of c.args.query.now in
    let read = read_on g.I.Source.left g.I.Source.given g.I.Source.faults first last before goes c.new-log.ensures.none c.new-log.ensures.zero c.new-log.ensures.fresh c.new-log.ensures.same c.input-1.given.0 ends in
    let kept = folder_kept g.I.Source.left g.I.Source.given g.I.Source.faults first last before goes c.new-log.ensures.none c.new-log.ensures.zero c.new-log.ensures.fresh c.new-log.ensures.same in
    passed_over_input c.args.spec.now c.args.moment q format folder given (input_at g.I.Source.left g.I.Source.given g.I.Source.faults before) (input_at g.I.Source.left g.I.Source.given g.I.Source.faults c.input-1.given.0) (g.S.Sink.written c.args.out.now) (g.S.Sink.written c.write_rows-written.new.out) c.in-Ok.spans passes.goes.output c.requires.stdin c.in-Ok.ensures read
    (moved_passed c.args.spec.now c.args.moment q format c.in-Ok.spans _ _ (folder_of g.I.Source.left last) _ (g.I.Source.given first.input.now) _ (g.I.Source.given last.input.now) _ kept (ap g.I.Source.given c.new-log.ensures.same) (ap g.I.Source.given (sym ends))
    ((simp to_z-of_z at c.write_rows-written.ensures.one_pass) format passes.goes))

pub returns-in_default-clause-too_long : goal.returns-in_default-clause-too_long
returns-in_default-clause-too_long g c = λ long. absurd (stays_short g.I.Source.given c.args.input.now c.args.input.now refl long)

pub returns-in-Ok-written-clause-too_long : goal.returns-in-Ok-written-clause-too_long
returns-in-Ok-written-clause-too_long g c = λ long.
    let ends = c.input-1.given.1 (sym (c.write_rows-written.ensures.goes_logs.reference ∙ c.new-log.ensures.same_reference)) ∙ c.drop.ensures in
    let full = is_full g.I.Source.left g.I.Source.given g.I.Source.faults c.new-log.result c.write_rows-written.new.logs c.args.input.now c.write_rows-written.ensures.goes_logs c.new-log.ensures.none c.new-log.ensures.zero c.new-log.ensures.fresh c.new-log.ensures.same c.input-1.given.0 ends long in
    absurd (true≢false (sym (c.is_too_long-is_too_long.ensures.told full) ∙ c.if-is_too_long.false))

pub returns-clause-too_long : goal.returns-clause-too_long
returns-clause-too_long g c = λ long.
    let ends = c.input-1.given.1 (sym (c.write_rows-written.ensures.goes_logs.reference ∙ c.new-log.ensures.same_reference)) ∙ c.drop.ensures in
    let full = is_full g.I.Source.left g.I.Source.given g.I.Source.faults c.new-log.result c.write_rows-written.new.logs c.args.input.now c.write_rows-written.ensures.goes_logs c.new-log.ensures.none c.new-log.ensures.zero c.new-log.ensures.fresh c.new-log.ensures.same c.input-1.given.0 ends long in
    absurd (true≢false (sym (c.is_too_long-is_too_long.ensures.told full) ∙ c.if-is_too_long.false))
