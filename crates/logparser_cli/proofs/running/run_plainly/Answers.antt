use Rattle.std.proofs.Common.{ℕ, List, inl, refl, ap, sym, subst, ◌∙◌, Err, FitsSigned, w64}
use Rattle.std.proofs.lemmas.Int.{to_z-of_z}
use Rattle.command_words.specs.Words.{query_in}
use Rattle.query_tree.specs.Views.{query_of}
use Rattle.file_stage.specs.FileTexts.{AlwaysTells}
use Rattle.reports.specs.declared.status.Status.{Status}
use Rattle.requests.specs.Files.{IsTextFault}
use Rattle.requests.specs.Texts.{HoldsQuery}
use Rattle.requests.specs.Given.{ReadsOnce, query_files}
use Rattle.requests.proofs.Growing.{asks_grown}
use Rattle.logparser_cli.specs.Answers.{AnswersPlainly}
use Rattle.logparser_cli.specs.Outputs.{World, held, input_at, world}
use Rattle.logparser_cli.proofs.Answering.{asked_answers, unasked_answers}
use Rattle.logparser_cli.proofs.Building.{built_plainly}
use Rattle.logparser_cli.proofs.Keeping.{asks_by, refused_by}
use Rattle.logparser_cli.proofs.Given.{query_then_rest}
use Rattle.grammar.specs.Trees as model
use Rattle.std.proofs.Common.{◌≡◌}
use Rattle.logparser_cli.specs.OnePass.{IsOnePass, PassesRows, Progress, progress}
use Rattle.logparser_cli.proofs.OnePasses.{no_bytes, no_file, nothing_given, passed_earlier, same_asked_query, told_later}
use Rattle.logparser_cli.proofs.Streamed.{stays_short}
use Rattle.logparser_cli.proofs.running.run_plainly.Goals as goal

pub run_query-status-requires-clause-built : goal.run_query-status-requires-clause-built
run_query-status-requires-clause-built g c = built_plainly c.args.spec.now (query_of c.in-Ok.field-0.query) c.requires.plain (c.requires.texts (query_of c.in-Ok.field-0.query))

pub returns-in-Ok-clause-answers : goal.returns-in-Ok-clause-answers
returns-in-Ok-clause-answers g c = λ words fine options.
    let range : FitsSigned w64 c.args.moment = c.ranges.moment in
    let mid : World = world (g.L.Logs.folder c.read_query_word.new.logs) (g.L.Logs.faults c.read_query_word.new.logs) (held (AlwaysTells g.D.Disk.state) (g.D.Disk.state c.args.disk.now).seen (g.S.Sink.written c.args.out.now)) (g.D.Disk.faults c.args.disk.now) (g.S.Sink.faults c.args.out.now) (g.E.Sink.written c.args.err.now) (g.E.Sink.faults c.args.err.now) (input_at g.I.Source.left g.I.Source.given g.I.Source.faults c.args.input.now) in
    let new : World = world (g.L.Logs.folder c.run_query-status.new.logs) (g.L.Logs.faults c.run_query-status.new.logs) (held (AlwaysTells g.D.Disk.state) (g.D.Disk.state c.run_query-status.new.disk).seen (g.S.Sink.written c.run_query-status.new.out)) (g.D.Disk.faults c.run_query-status.new.disk) (g.S.Sink.faults c.run_query-status.new.out) (g.E.Sink.written c.run_query-status.new.err) (g.E.Sink.faults c.run_query-status.new.err) (input_at g.I.Source.left g.I.Source.given g.I.Source.faults c.run_query-status.new.input) in
    asked_answers mid new (g.L.Logs.folder c.args.logs.now) (g.L.Logs.faults c.args.logs.now) c.args.moment words c.args.spec.now (query_of c.in-Ok.field-0.query) c.run_query-status.result
    c.requires.moment c.in-Ok.ensures.grows c.in-Ok.ensures.later c.run_query-status.ensures.grows (asks_by (g.L.Logs.folder c.args.logs.now) (g.L.Logs.folder c.read_query_word.new.logs) words c.args.spec.now c.in-Ok.field-0.text (query_of c.in-Ok.field-0.query) fine options (subst (λ (word : List ℕ). HoldsQuery (g.L.Logs.folder c.args.logs.now) (g.L.Logs.folder c.read_query_word.new.logs) word c.in-Ok.field-0.text (query_of c.in-Ok.field-0.query)) c.as_str.ensures c.in-Ok.ensures.query))
    (simp to_z-of_z at c.run_query-status.ensures.answers)

pub returns-clause-answers : goal.returns-clause-answers
returns-clause-answers g c = λ words fine options.
    let old : World = world (g.L.Logs.folder c.args.logs.now) (g.L.Logs.faults c.args.logs.now) (held (AlwaysTells g.D.Disk.state) (g.D.Disk.state c.args.disk.now).seen (g.S.Sink.written c.args.out.now)) (g.D.Disk.faults c.args.disk.now) (g.S.Sink.faults c.args.out.now) (g.E.Sink.written c.args.err.now) (g.E.Sink.faults c.args.err.now) (input_at g.I.Source.left g.I.Source.given g.I.Source.faults c.args.input.now) in
    let new : World = world (g.L.Logs.folder c.read_query_word.new.logs) (g.L.Logs.faults c.read_query_word.new.logs) (held (AlwaysTells g.D.Disk.state) (g.D.Disk.state c.args.disk.now).seen (g.S.Sink.written c.args.out.now)) (g.D.Disk.faults c.args.disk.now) (g.S.Sink.faults c.args.out.now) (g.E.Sink.written c.args.err.now) (g.E.Sink.faults c.args.err.now) (input_at g.I.Source.left g.I.Source.given g.I.Source.faults c.args.input.now) in
    subst (λ (status : Status). AnswersPlainly c.args.moment words old new status) (sym c.unasked.ensures)
    (unasked_answers old new c.args.moment words c.in-Err.fault c.requires.moment (refused_by (g.L.Logs.folder c.args.logs.now) (g.L.Logs.folder c.read_query_word.new.logs) words c.args.spec.now c.in-Err.fault fine options (subst (λ (word : List ℕ). IsTextFault (g.L.Logs.folder c.args.logs.now) (g.L.Logs.folder c.read_query_word.new.logs) word c.in-Err.fault) c.as_str.ensures c.in-Err.ensures.refused))
    (record { out = refl; files = refl }) (λ e. c.in-Err.ensures.failed (ap Err e)))

pub returns-in-Ok-clause-given : goal.returns-in-Ok-clause-given
returns-in-Ok-clause-given g c = λ words fine options.
    query_then_rest (g.L.Logs.folder c.args.logs.now) (g.L.Logs.folder c.read_query_word.new.logs) (g.L.Logs.folder c.run_query-status.new.logs) words c.args.spec.now (query_of c.in-Ok.field-0.query) _ _ _
    c.run_query-status.ensures.grows (asks_by (g.L.Logs.folder c.args.logs.now) (g.L.Logs.folder c.read_query_word.new.logs) words c.args.spec.now c.in-Ok.field-0.text (query_of c.in-Ok.field-0.query) fine options (subst (λ (word : List ℕ). HoldsQuery (g.L.Logs.folder c.args.logs.now) (g.L.Logs.folder c.read_query_word.new.logs) word c.in-Ok.field-0.text (query_of c.in-Ok.field-0.query)) c.as_str.ensures c.in-Ok.ensures.query))
    (subst (λ (word : List ℕ). ReadsOnce (g.L.Logs.folder c.read_query_word.new.logs) (query_files word) (g.L.Logs.given c.args.logs.now) (g.L.Logs.given c.read_query_word.new.logs)) (c.as_str.ensures ∙ options.query) c.read_query_word.ensures.given)
    c.run_query-status.ensures.given

pub returns-clause-given : goal.returns-clause-given
returns-clause-given g c = λ words fine options.
    inl (subst (λ (word : List ℕ). ReadsOnce (g.L.Logs.folder c.read_query_word.new.logs) (query_files word) (g.L.Logs.given c.args.logs.now) (g.L.Logs.given c.read_query_word.new.logs)) (c.as_str.ensures ∙ options.query) c.read_query_word.ensures.given)

pub returns-in-Ok-clause-input : goal.returns-in-Ok-clause-input
returns-in-Ok-clause-input g c = λ words fine options none.
    let before = g.L.Logs.folder c.args.logs.now in
    let mid = g.L.Logs.folder c.read_query_word.new.logs in
    let now = g.L.Logs.folder c.run_query-status.new.logs in
    let q = query_of c.in-Ok.field-0.query in
    let asks = asks_by before mid words c.args.spec.now c.in-Ok.field-0.text q fine options (subst (λ (word : List ℕ). HoldsQuery before mid word c.in-Ok.field-0.text q) c.as_str.ensures c.in-Ok.ensures.query) in
    c.run_query-status.ensures.input (none c.args.spec.now q (asks_grown before mid now words c.args.spec.now q c.run_query-status.ensures.grows asks))

pub returns-in-Ok-clause-one_pass : goal.returns-in-Ok-clause-one_pass
returns-in-Ok-clause-one_pass g c = λ words fine options q format a.
    let range : FitsSigned w64 c.args.moment = c.ranges.moment in
    let old : Progress = progress (g.L.Logs.folder c.args.logs.now) (g.L.Logs.given c.args.logs.now) (input_at g.I.Source.left g.I.Source.given g.I.Source.faults c.args.input.now) (g.S.Sink.written c.args.out.now) in
    let new : Progress = progress (g.L.Logs.folder c.run_query-status.new.logs) (g.L.Logs.given c.run_query-status.new.logs) (input_at g.I.Source.left g.I.Source.given g.I.Source.faults c.run_query-status.new.input) (g.S.Sink.written c.run_query-status.new.out) in
    let before = g.L.Logs.folder c.args.logs.now in
    let mid = g.L.Logs.folder c.read_query_word.new.logs in
    let now = g.L.Logs.folder c.run_query-status.new.logs in
    let own = query_of c.in-Ok.field-0.query in
    let asks = asks_by before mid words c.args.spec.now c.in-Ok.field-0.text own fine options (subst (λ (word : List ℕ). HoldsQuery before mid word c.in-Ok.field-0.text own) c.as_str.ensures c.in-Ok.ensures.query) in
    let same : q ≡ own = same_asked_query before mid now words c.args.spec.now c.args.spec.now own q a.in_words asks a.asks in
    let once = subst (λ (word : List ℕ). ReadsOnce mid (query_files word) (g.L.Logs.given c.args.logs.now) (g.L.Logs.given c.read_query_word.new.logs)) (c.as_str.ensures ∙ options.query) c.read_query_word.ensures.given in
    let none = no_bytes mid _ _ _ (no_file (query_in words) a.in_words) once in
    let ran : IsOnePass c.args.spec.now c.args.moment own format (progress mid (g.L.Logs.given c.read_query_word.new.logs) old.input old.out) new = (simp to_z-of_z at c.run_query-status.ensures.one_pass) format (subst (λ (x : model.Query). PassesRows c.args.spec.now x format) same a.passes) in
    subst (λ (x : model.Query). IsOnePass c.args.spec.now c.args.moment x format old new) (sym same)
    (passed_earlier c.args.spec.now c.args.moment own format old new mid (g.L.Logs.given c.read_query_word.new.logs) c.in-Ok.ensures.grows (told_later mid now _ c.run_query-status.ensures.grows none) ran)

pub returns-clause-one_pass : goal.returns-clause-one_pass
returns-clause-one_pass g c = λ words fine options q format a.
    let old : Progress = progress (g.L.Logs.folder c.args.logs.now) (g.L.Logs.given c.args.logs.now) (input_at g.I.Source.left g.I.Source.given g.I.Source.faults c.args.input.now) (g.S.Sink.written c.args.out.now) in
    let mid = g.L.Logs.folder c.read_query_word.new.logs in
    let once = subst (λ (word : List ℕ). ReadsOnce mid (query_files word) (g.L.Logs.given c.args.logs.now) (g.L.Logs.given c.read_query_word.new.logs)) (c.as_str.ensures ∙ options.query) c.read_query_word.ensures.given in
    nothing_given c.args.spec.now c.args.moment q format old mid (g.L.Logs.given c.read_query_word.new.logs) (no_bytes mid _ _ _ (no_file (query_in words) a.in_words) once)

pub returns-clause-too_long : goal.returns-clause-too_long
returns-clause-too_long g c = λ long. absurd (stays_short g.I.Source.given c.args.input.now c.args.input.now refl long)
