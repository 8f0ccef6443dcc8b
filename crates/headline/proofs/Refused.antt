-- A refusal of a run over a ledger is never told as `Done`.
use Rattle.std.proofs.Common.{◌≡◌, ◌≢◌, ℕ, ℤ, false, List, Option, Result, Ok, Err, IfErr, inl, inr, refl, sym, ◌∙◌, ap}
use Rattle.disk_model.specs.Disk.{DiskState}
use Rattle.lp_model.specs.Outside.{Folder}
use Rattle.command_words.specs.declared.spec.Spec.{Spec}
use Rattle.logparser_cli.specs.RunFault.{RunFault}
use Rattle.logparser_cli.specs.RunFault.TheVariants as X
use Rattle.ledger.specs.declared.refused.LedgerRefused.{LedgerRefused}
use Rattle.positions.specs.declared.fault.LoadFault.{LoadFault}
use Rattle.positions.specs.declared.fault.LoadFault.TheVariants as P
use Rattle.positions.specs.declared.spans.SpanFault.{SpanFault}
use Rattle.positions.specs.declared.spans.SpanFault.TheVariants as F
use Rattle.row_output.specs.declared.fault.Refused.{Refused}
use Rattle.row_output.specs.declared.fault.Refused.TheVariants as W
use Rattle.query_run.specs.declared.executing.Counts.{Counts}
use Rattle.reports.specs.declared.status.Status.{Status}
use Rattle.reports.specs.declared.status.Status.TheVariants as S
use Rattle.run_model.specs.Steps.{well}
use Rattle.logparser_cli.specs.SubqueryFault.{SubqueryFault}
use Rattle.logparser_cli.specs.SubqueryFault.TheVariants as G
use Rattle.logparser_cli.specs.Kept.{answer_of}
use Rattle.logparser_cli.specs.LedgerStop.{LedgerStop}
use Rattle.logparser_cli.specs.LedgerStop.TheVariants as L
use Rattle.logparser_cli.specs.RunStop.{RunStop}
use Rattle.logparser_cli.specs.RunStop.TheVariants as B
use Rattle.logparser_cli.specs.Refusals.{IsCallRefused, IsRefusedBehind}
use Rattle.logparser_cli.specs.Statuses.{IsAnswerTo, IsBrokenOff, IsUngivenAs, stopped, ungiven, unloaded, unplaced, unsettled, unspanned}
use Rattle.logparser_cli.specs.Steps.{ending_by}
use Rattle.logparser_cli.proofs.CheckpointedCommandAnswering.{mild_unasked, mild_unfit, mild_untemplated, unsettled_not_well}

-- what doesn't end well isn't `Done`
not_done : (status : Status) → ending_by status ≢ well → status ≢ S.Done
not_done status not_well done = not_well (ap ending_by done)

of_output : (why : Refused) → unplaced why ≢ S.Done
of_output W.TooManyOutputs e = cc
of_output (W.BadName fault) e = cc
of_output (W.NameClash name) e = cc

of_run : (fault : RunFault) → stopped false fault ≢ S.Done
of_run (X.Plan fault) e = cc
of_run (X.Refused why) e = of_output why e
of_run X.LogsFault e = cc
of_run X.StageFault e = cc
of_run (X.ParseErrors log row) e = cc
of_run X.Memory e = cc

of_load : (fault : LoadFault) → unloaded fault ≢ S.Done
of_load P.DiskFault e = cc
of_load (P.LedgerFault part place) e = cc
of_load P.Memory e = cc

of_spans : (fault : SpanFault) → unspanned fault ≢ S.Done
of_spans (F.NoSuchLog name) e = cc
of_spans (F.LostLog stem number) e = cc
of_spans (F.Shrunk name kept found) e = cc
of_spans (F.InputChanged kept given) e = cc
of_spans F.TooManyLogs e = cc
of_spans F.LogsFault e = cc
of_spans (F.BadName fault) e = cc
of_spans F.Memory e = cc

of_phase : (fault : LedgerRefused) → unsettled fault ≢ S.Done
of_phase fault = not_done (unsettled fault) (unsettled_not_well fault)

at : (answer status : Status) → status ≡ answer → answer ≢ S.Done → status ≢ S.Done
at answer status is none done = none (sym is ∙ done)

of_subquery : (fault : SubqueryFault) (status : Status) → IsUngivenAs fault status → status ≢ S.Done
of_subquery (G.BadName fault) status is = at (S.BadName fault) status is (λ e. cc)
of_subquery (G.NoSuchLog name) status is = at (S.NoSuchLog name) status is (λ e. cc)
of_subquery G.TooManyLogs status is = at S.TooManyLogs status is (λ e. cc)
of_subquery (G.Clash name) status (inl is) = at (S.NameClash name) status is (λ e. cc)
of_subquery (G.Clash name) status (inr is) = at S.Memory status is (λ e. cc)
of_subquery (G.Plan fault) status is = at (ungiven (G.Plan fault)) status is (λ e. cc)
of_subquery (G.Bad log row) status is = at (S.ParseErrors log row) status is (λ e. cc)
of_subquery G.Logs status is = at S.LogsFault status is (λ e. cc)
of_subquery G.Memory status is = at S.Memory status is (λ e. cc)

of_stop : (stop : RunStop) (status : Status) → IsBrokenOff stop status → status ≢ S.Done
of_stop (B.Subquery fault) status is = of_subquery fault status is
of_stop (B.Refused fault) status is = at (stopped false fault) status is (of_run fault)
of_stop (B.BeforeGate fault) status is = at (unsettled fault) status is (of_phase fault)
of_stop (B.FromGate fault) status is = at (unsettled fault) status is (of_phase fault)

of_answer : (stop : LedgerStop) (status : Status) → IsAnswerTo stop status → status ≢ S.Done
of_answer (L.Ledger fault) status is = at (unloaded fault) status is (of_load fault)
of_answer (L.Logs fault) status is = at (unspanned fault) status is (of_spans fault)
of_answer (L.Clash name) status (inl is) = at (S.NameClash name) status is (λ e. cc)
of_answer (L.Clash name) status (inr is) = at S.Memory status is (λ e. cc)
of_answer (L.Run stop) status is = of_stop stop status is
of_answer L.Memory status is = at S.Memory status is (λ e. cc)

behind : {D : Type 0} (state : D → DiskState) (disk : DiskState) (ledger stage : List ℕ) (before now : Option Folder) (spec : Spec) (moment : ℤ) (status : Status) → IsRefusedBehind state disk ledger stage before now spec moment status → status ≢ S.Done
behind state disk ledger stage before now spec moment status (inl unread) = at _ status unread.status_is (not_done _ (mild_unasked unread.fault).not_well)
behind state disk ledger stage before now spec moment status (inr (inl unsuited)) = not_done status (mild_unfit unsuited.q status unsuited.why).not_well
behind state disk ledger stage before now spec moment status (inr (inr (inl none))) = at _ status none.status_is (not_done _ (mild_untemplated none.fault).not_well)
behind state disk ledger stage before now spec moment status (inr (inr (inr (inl uncounted)))) = of_answer uncounted.countless.stop status uncounted.countless.answers
behind state disk ledger stage before now spec moment status (inr (inr (inr (inr memory)))) = at S.Memory status memory (λ e. cc)

refused_not_done : {D : Type 0} (state : D → DiskState) (old : D) (ledger stage : List ℕ) (before now : Option Folder) (spec : Spec) (moment : ℤ) (status : Status) → IsCallRefused state old ledger stage before now spec moment status → status ≢ S.Done
refused_not_done state old ledger stage before now spec moment status (inl unsettled) = at _ status unsettled.status_is (of_phase unsettled.fault)
refused_not_done state old ledger stage before now spec moment status (inr then) = behind state (state then.settled) ledger stage before now spec moment status then.refused

-- so at `Done` there are counts
pub done_counts : {D : Type 0} (state : D → DiskState) (old : D) (ledger stage : List ℕ) (before now : Option Folder) (spec : Spec) (moment : ℤ) (status : Status) (result : Result Counts Status) → status ≡ answer_of result → IfErr result (IsCallRefused state old ledger stage before now spec moment)
    → status ≡ S.Done → (counts : Counts) × (result ≡ Ok counts)
done_counts state old ledger stage before now spec moment status (Ok counts) is refused done = (counts, refl)
done_counts state old ledger stage before now spec moment status (Err other) is refused done = absurd (refused_not_done state old ledger stage before now spec moment other refused (sym is ∙ done))
