use Rattle.std.proofs.Common.{rules, ◌≡◌, ◌∙◌, true, false, true≢false, sym, refl, ap, FitsSigned, w64}
use Rattle.std.proofs.lemmas.Int.{to_z-of_z}
use Rattle.file_stage.specs.FileTexts.{AlwaysTells}
use Rattle.query_tree.specs.Views.{query_of}
use Rattle.checkpointed_command.specs.Formats.{log_format}
use Rattle.checkpointed_command.specs.Ran.{Ran}
use Rattle.checkpointed_command.specs.RunFault.{RunFault}
use Rattle.checkpointed_command.specs.Outputs.{asked_in, is_standard}
use Rattle.checkpointed_command.specs.Texts.{into_in, sections_in}
use Rattle.logparser_cli.specs.Outputs.{HasFront, HasWritten, IsUnwritten, held}
use Rattle.checkpointed_command.proofs.InTurns.{exceeded_map}
use Rattle.logparser_cli.proofs.Mapping.{executed_map, if_ok_map, if_parse_map, if_plan_map, on_err_map, stopped_map, untouched_map}
use Rattle.logparser_cli.proofs.Written.{files_cut, files_unwritten, files_written, goes_to_files, output_cut, output_written}
use Rattle.logparser_cli.proofs.writing.write_rows.Goals as goal

pub returns-then-is_standard-clause-ran : goal.returns-then-is_standard-clause-ran
returns-then-is_standard-clause-ran g c =
    let range : FitsSigned w64 c.args.moment = c.ranges.moment in
    let q = query_of c.args.query.now in
    let template = sections_in (λ t. t.value) c.args.template in
    let asked = asked_in c.args.spec.now template c.args.moment q c.args.spans.now in
    let files = (g.D.Disk.state c.args.disk.now).seen in
    let standard : is_standard (into_in q) ≡ true = sym c.is_standard.ensures ∙ c.if-is_standard.true in
    if_ok_map {T = Ran} {E = RunFault} _ _ _ (λ ran is. executed_map (log_format c.args.spec.now q) false (g.L.LogSource.folder c.execute.new.logs) _ (HasWritten (held (AlwaysTells g.D.Disk.state) files (g.S.Sink.written c.args.out.now)) (held (AlwaysTells g.D.Disk.state) files (g.S.Sink.written c.execute.new.stage))) asked c.args.spec.now c.args.moment q c.args.spans.now ran.counts
    (λ plan rows holds. output_written g.S.Sink.written _ c.args.out.now c.execute.new.stage (asked plan) rows ran.outputs (AlwaysTells g.D.Disk.state) files (goes_to_files c.args.spec.now template c.args.moment q c.args.spans.now plan true standard) holds) is)
    (simp to_z-of_z at c.execute.ensures.ran)

pub returns-then-is_standard-clause-stopped : goal.returns-then-is_standard-clause-stopped
returns-then-is_standard-clause-stopped g c =
    let range : FitsSigned w64 c.args.moment = c.ranges.moment in
    let q = query_of c.args.query.now in
    let template = sections_in (λ t. t.value) c.args.template in
    let asked = asked_in c.args.spec.now template c.args.moment q c.args.spans.now in
    let files = (g.D.Disk.state c.args.disk.now).seen in
    let standard : is_standard (into_in q) ≡ true = sym c.is_standard.ensures ∙ c.if-is_standard.true in
    let old = held (AlwaysTells g.D.Disk.state) files (g.S.Sink.written c.args.out.now) in
    let new = held (AlwaysTells g.D.Disk.state) files (g.S.Sink.written c.execute.new.stage) in
    on_err_map _ _ _ (λ stop. stopped_map (log_format c.args.spec.now q) false (g.L.LogSource.folder c.execute.new.logs) (c.execute.new.stage ≡ c.args.out.now) (IsUnwritten old new) _ (HasFront old new) asked c.args.spec.now c.args.moment q c.args.spans.now
    (λ same. record { out = ap g.S.Sink.written same; files = refl })
    (λ plan rows stops. output_cut g.S.Sink.written _ c.args.out.now c.execute.new.stage (asked plan) rows (AlwaysTells g.D.Disk.state) files (goes_to_files c.args.spec.now template c.args.moment q c.args.spans.now plan true standard) stops) stop)
    (simp to_z-of_z at c.execute.ensures.stopped)

pub returns-then-is_standard-clause-refused : goal.returns-then-is_standard-clause-refused
returns-then-is_standard-clause-refused g c =
    let range : FitsSigned w64 c.args.moment = c.ranges.moment in
    simp to_z-of_z at c.execute.ensures.refused

pub returns-clause-ran : goal.returns-clause-ran
returns-clause-ran g c =
    let range : FitsSigned w64 c.args.moment = c.ranges.moment in
    let q = query_of c.args.query.now in
    let template = sections_in (λ t. t.value) c.args.template in
    let asked = asked_in c.args.spec.now template c.args.moment q c.args.spans.now in
    let files : is_standard (into_in q) ≡ false = sym c.is_standard.ensures ∙ c.if-is_standard.false in
    let ends : c.execute-2.new.stage.disk.now ≡ c.disk-1.given.0 = search rules in
    if_ok_map {T = Ran} {E = RunFault} _ _ _ (λ ran is. executed_map (log_format c.args.spec.now q) false (g.L.LogSource.folder c.execute-2.new.logs) _ _ asked c.args.spec.now c.args.moment q c.args.spans.now ran.counts
    (λ plan rows holds. files_written g.D.Disk.state c.new-stage.result c.execute-2.new.stage c.args.disk.now c.disk-1.given.0 (asked plan) rows ran.outputs (g.S.Sink.written c.args.out.now) c.new-stage.ensures.same ends (goes_to_files c.args.spec.now template c.args.moment q c.args.spans.now plan false files) holds) is)
    (simp to_z-of_z at c.execute-2.ensures.ran)

pub returns-clause-stopped : goal.returns-clause-stopped
returns-clause-stopped g c =
    let range : FitsSigned w64 c.args.moment = c.ranges.moment in
    let q = query_of c.args.query.now in
    let template = sections_in (λ t. t.value) c.args.template in
    let asked = asked_in c.args.spec.now template c.args.moment q c.args.spans.now in
    let out = g.S.Sink.written c.args.out.now in
    let files : is_standard (into_in q) ≡ false = sym c.is_standard.ensures ∙ c.if-is_standard.false in
    let ends : c.execute-2.new.stage.disk.now ≡ c.disk-1.given.0 = search rules in
    on_err_map _ _ _ (λ stop. stopped_map (log_format c.args.spec.now q) false (g.L.LogSource.folder c.execute-2.new.logs) (c.execute-2.new.stage ≡ c.new-stage.result) _ _ _ asked c.args.spec.now c.args.moment q c.args.spans.now
    (λ same. files_unwritten g.D.Disk.state c.new-stage.result c.execute-2.new.stage c.args.disk.now c.disk-1.given.0 out c.new-stage.ensures.same ends same)
    (λ plan rows stops. files_cut g.D.Disk.state c.new-stage.result c.execute-2.new.stage c.args.disk.now c.disk-1.given.0 (asked plan) rows out c.new-stage.ensures.same ends (goes_to_files c.args.spec.now template c.args.moment q c.args.spans.now plan false files) stops) stop)
    (simp to_z-of_z at c.execute-2.ensures.stopped)

pub returns-clause-refused : goal.returns-clause-refused
returns-clause-refused g c =
    let range : FitsSigned w64 c.args.moment = c.ranges.moment in
    simp to_z-of_z at c.execute-2.ensures.refused

pub returns-then-is_standard-clause-one_pass : goal.returns-then-is_standard-clause-one_pass
returns-then-is_standard-clause-one_pass g c =
    let range : FitsSigned w64 c.args.moment = c.ranges.moment in
    simp to_z-of_z at c.execute.ensures.one_pass

pub returns-clause-one_pass : goal.returns-clause-one_pass
returns-clause-one_pass g c = λ format passes. absurd (true≢false (sym passes.standard ∙ (sym c.is_standard.ensures ∙ c.if-is_standard.false)))

pub returns-then-is_standard-clause-parse : goal.returns-then-is_standard-clause-parse
returns-then-is_standard-clause-parse g c =
    let range : FitsSigned w64 c.args.moment = c.ranges.moment in
    let q = query_of c.args.query.now in
    let asked = asked_in c.args.spec.now (sections_in (λ t. t.value) c.args.template) c.args.moment q c.args.spans.now in
    let files = (g.D.Disk.state c.args.disk.now).seen in
    let old = held (AlwaysTells g.D.Disk.state) files (g.S.Sink.written c.args.out.now) in
    let new = held (AlwaysTells g.D.Disk.state) files (g.S.Sink.written c.execute.new.stage) in
    let same : (c.execute.new.stage ≡ c.args.out.now) → IsUnwritten old new = λ same. record { out = ap g.S.Sink.written same; files = refl } in
    if_parse_map _ _ _ (λ line e. exceeded_map (log_format c.args.spec.now q) false (g.L.LogSource.folder c.execute.new.logs) (c.execute.new.stage ≡ c.args.out.now) (IsUnwritten old new) asked c.args.spec.now c.args.moment q c.args.spans.now line same e)
    (simp to_z-of_z at c.execute.ensures.parse)

pub returns-clause-parse : goal.returns-clause-parse
returns-clause-parse g c =
    let range : FitsSigned w64 c.args.moment = c.ranges.moment in
    let q = query_of c.args.query.now in
    let asked = asked_in c.args.spec.now (sections_in (λ t. t.value) c.args.template) c.args.moment q c.args.spans.now in
    let out = g.S.Sink.written c.args.out.now in
    let ends : c.execute-2.new.stage.disk.now ≡ c.disk-1.given.0 = search rules in
    if_parse_map _ _ _ (λ line e. exceeded_map (log_format c.args.spec.now q) false (g.L.LogSource.folder c.execute-2.new.logs) (c.execute-2.new.stage ≡ c.new-stage.result) _ asked c.args.spec.now c.args.moment q c.args.spans.now line
    (λ same. files_unwritten g.D.Disk.state c.new-stage.result c.execute-2.new.stage c.args.disk.now c.disk-1.given.0 out c.new-stage.ensures.same ends same) e)
    (simp to_z-of_z at c.execute-2.ensures.parse)

pub returns-then-is_standard-clause-before : goal.returns-then-is_standard-clause-before
returns-then-is_standard-clause-before g c =
    let files = (g.D.Disk.state c.args.disk.now).seen in
    let old = held (AlwaysTells g.D.Disk.state) files (g.S.Sink.written c.args.out.now) in
    let new = held (AlwaysTells g.D.Disk.state) files (g.S.Sink.written c.execute.new.stage) in
    let same : (c.execute.new.stage ≡ c.args.out.now) → IsUnwritten old new = λ same. record { out = ap g.S.Sink.written same; files = refl } in
    if_plan_map _ _ _ (λ fault is. untouched_map (log_format c.args.spec.now (query_of c.args.query.now)) false (g.L.LogSource.folder c.execute.new.logs) (c.execute.new.stage ≡ c.args.out.now) (IsUnwritten old new) c.args.spec.now c.args.spans.now same is)
    c.execute.ensures.before

pub returns-clause-before : goal.returns-clause-before
returns-clause-before g c =
    let out = g.S.Sink.written c.args.out.now in
    let ends : c.execute-2.new.stage.disk.now ≡ c.disk-1.given.0 = search rules in
    if_plan_map _ _ _ (λ fault is. untouched_map (log_format c.args.spec.now (query_of c.args.query.now)) false (g.L.LogSource.folder c.execute-2.new.logs) (c.execute-2.new.stage ≡ c.new-stage.result) _ c.args.spec.now c.args.spans.now
    (λ same. files_unwritten g.D.Disk.state c.new-stage.result c.execute-2.new.stage c.args.disk.now c.disk-1.given.0 out c.new-stage.ensures.same ends same) is)
    c.execute-2.ensures.before
