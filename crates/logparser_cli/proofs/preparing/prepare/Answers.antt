use Rattle.std.proofs.Common.{◌≡◌, ◌∙◌, ◌⊎◌, [], ℕ, true, ap, sym, arith, inl, inr, subst, FitsSigned, w64}
use Rattle.std.proofs.lemmas.Int.{to_z-of_z}
use Rattle.column_kinds.proofs.Answered.{if_err, on_ok}
use Rattle.checkpointed_command.specs.Giving.{subqueries_of}
use Rattle.checkpointed_command.specs.SubqueriesReading.{ReadsAll}
use Rattle.checkpointed_command.specs.Built.{reads_stdin}
use Rattle.lp_model.proofs.Growing.{OnlyGrow-refl}
use Rattle.query_text.specs.Stdin.{names_in}
use Rattle.requests.proofs.Given.{reads_none}
use Rattle.query_tree.specs.Views.{query_of}
use Rattle.reports.specs.declared.status.Status.{Status}
use Rattle.logparser_cli.specs.Logs.{IsUnlisted}
use Rattle.logparser_cli.specs.Subqueries.{IsFilled, IsRefusedAs, IsRefusedBehind}
use Rattle.logparser_cli.proofs.Prepared.{filled_earlier, input_first, none_read}
use Rattle.logparser_cli.proofs.Streamed.{names_read}
use Rattle.logparser_cli.proofs.preparing.prepare.Goals as goal

pub returns-then-reads_stdin-clause-refused : goal.returns-then-reads_stdin-clause-refused
returns-then-reads_stdin-clause-refused g c =
    let range : FitsSigned w64 c.args.moment = c.ranges.moment in
    let before = g.L.Logs.folder c.args.logs.now in
    let now = g.L.Logs.folder c.give.new.logs in
    let q = query_of c.args.query.now in
    let stdin : reads_stdin (names_in q) ≡ true = ap reads_stdin (sym (names_read c.args.query.now)) ∙ (sym c.reads_stdin.ensures ∙ c.if-reads_stdin.true) in
    let Unread : Type 0 = g.L.Logs.given c.give.new.logs ≡ g.L.Logs.given c.args.logs.now in
    if_err (λ status. IsRefusedAs c.args.spec.now c.args.moment before now q status) (λ status. IsUnlisted now q status × Unread ⊎ IsRefusedBehind c.args.spec.now c.args.moment before now q status) c.give.result
    (λ status refused. inr (record { listed = before; first = input_first before before q stdin; grew = OnlyGrow-refl before; grows = c.give.ensures.grows; refused = refused })) (simp to_z-of_z at c.give.ensures.refused)

pub returns-in-Ok-clause-fills : goal.returns-in-Ok-clause-fills
returns-in-Ok-clause-fills g c =
    let range : FitsSigned w64 c.args.moment = c.ranges.moment in
    let mid = g.L.Logs.folder c.check_logs.new.logs in
    let now = g.L.Logs.folder c.give-in-Ok.new.logs in
    let before = g.L.Logs.folder c.args.logs.now in
    let q = query_of c.args.query.now in
    let whole = query_of c.give-in-Ok.new.query in
    on_ok (IsFilled c.args.spec.now c.args.moment mid now q whole) (IsFilled c.args.spec.now c.args.moment before now q whole) c.give-in-Ok.result
    (filled_earlier c.args.spec.now c.args.moment before mid now q whole c.check_logs.ensures.grows) (simp to_z-of_z at c.give-in-Ok.ensures.fills)

pub returns-in-Ok-clause-refused : goal.returns-in-Ok-clause-refused
returns-in-Ok-clause-refused g c =
    let range : FitsSigned w64 c.args.moment = c.ranges.moment in
    let mid = g.L.Logs.folder c.check_logs.new.logs in
    let now = g.L.Logs.folder c.give-in-Ok.new.logs in
    let before = g.L.Logs.folder c.args.logs.now in
    let q = query_of c.args.query.now in
    let Unread : Type 0 = g.L.Logs.given c.give-in-Ok.new.logs ≡ g.L.Logs.given c.args.logs.now in
    if_err (λ status. IsRefusedAs c.args.spec.now c.args.moment mid now q status) (λ status. IsUnlisted now q status × Unread ⊎ IsRefusedBehind c.args.spec.now c.args.moment before now q status) c.give-in-Ok.result
    (λ status refused. inr (record { listed = mid; first = c.in-Ok.ensures.found; grew = c.check_logs.ensures.grows; grows = c.give-in-Ok.ensures.grows; refused = refused })) (simp to_z-of_z at c.give-in-Ok.ensures.refused)

pub returns-in-Ok-clause-read : goal.returns-in-Ok-clause-read
returns-in-Ok-clause-read g c = subst (λ (start : ℕ). ReadsAll (g.L.Logs.folder c.give-in-Ok.new.logs) (subqueries_of (query_of c.args.query.now)) start (g.L.Logs.given c.give-in-Ok.new.logs)) c.check_logs.ensures.given c.give-in-Ok.ensures.read

pub returns-in-Err-clause-refused : goal.returns-in-Err-clause-refused
returns-in-Err-clause-refused g c = inl (c.in-Err.ensures.refused, c.check_logs.ensures.given)

pub returns-in-Err-clause-read : goal.returns-in-Err-clause-read
returns-in-Err-clause-read g c = record { logs = []; are_read = none_read (g.L.Logs.folder c.check_logs.new.logs) (subqueries_of (query_of c.args.query.now)); once = reads_none (g.L.Logs.folder c.check_logs.new.logs) [] _ _ (omega arith) }
