-- An answer that the disk has no part in ends no run well, and tells of no damage.
use Rattle.std.proofs.Common.{◌≡◌, ◌≢◌, false, inl, inr, refl, sym, subst}
use Rattle.checkpointed_run.specs.RunFault.{RunFault}
use Rattle.checkpointed_run.specs.RunFault.TheVariants as X
use Rattle.ledger.specs.declared.refused.LedgerRefused.{LedgerRefused}
use Rattle.ledger.specs.declared.refused.LedgerRefused.TheVariants as C
use Rattle.positions.specs.declared.fault.LoadFault.{LoadFault}
use Rattle.positions.specs.declared.fault.LoadFault.TheVariants as P
use Rattle.positions.specs.declared.spans.SpanFault.{SpanFault}
use Rattle.positions.specs.declared.spans.SpanFault.TheVariants as F
use Rattle.reports.specs.declared.status.Status.{Status}
use Rattle.reports.specs.declared.status.Status.TheVariants as S
use Rattle.requests.specs.declared.fault.NoTemplate.{NoTemplate}
use Rattle.requests.specs.declared.fault.NoTemplate.TheVariants as N
use Rattle.requests.specs.declared.fault.RequestFault.{RequestFault}
use Rattle.requests.specs.declared.fault.RequestFault.TheVariants as R
use Rattle.row_output.specs.declared.fault.Refused.{Refused}
use Rattle.row_output.specs.declared.fault.Refused.TheVariants as W
use Rattle.grammar.specs.Trees.{Query}
use Rattle.checkpointed_run.specs.SubqueryFault.{SubqueryFault}
use Rattle.checkpointed_run.specs.SubqueryFault.TheVariants as G
use Rattle.run_model.specs.Steps.{Ending, well, refused, disk_failed}
use Rattle.checkpointed_run.specs.Steps.{IsLoadDamage, fault_ending, ledger_ending, load_ending, phase_ending, stop_ending}
use Rattle.checkpointed_run.specs.Steps.{IsDamaged as IsDamagedRun}
use Rattle.checkpointed_run.specs.Stops.{IsDamagedStop, IsFaultDamage}
use Rattle.checkpointed_run.specs.declared.over.LedgerStop.{LedgerStop}
use Rattle.checkpointed_run.specs.declared.over.LedgerStop.TheVariants as L
use Rattle.checkpointed_run.specs.declared.running.RunStop.{RunStop}
use Rattle.checkpointed_run.specs.declared.running.RunStop.TheVariants as B
use Rattle.checkpointed_command.specs.Asked.{IsUnfit}
use Rattle.checkpointed_command.specs.Statuses.{IsAnswerTo, IsBrokenOff, IsUngivenAs, stopped, unasked, ungiven, unloaded, unplaced, unspanned, untemplated, unsettled}
use Rattle.checkpointed_command.specs.Steps.{IsDamaged, ending_by}

refused_not_well : refused ≢ well
refused_not_well e = cc

failed_not_well : disk_failed ≢ well
failed_not_well e = cc

-- an answer that the disk has no part in
pub record IsMild (status : Status) : Type 0 where
  pub not_well : ending_by status ≢ well
  pub undamaged : IsDamaged status → ⊥
  pub no_disk : status ≢ S.DiskFault

pub mild_unasked : (fault : RequestFault) → IsMild (unasked fault)
mild_unasked (R.Usage fault) = record { not_well = refused_not_well; undamaged = λ d. d; no_disk = λ e. cc }
mild_unasked (R.BadName fault) = record { not_well = refused_not_well; undamaged = λ d. d; no_disk = λ e. cc }
mild_unasked (R.NoSuchLog name) = record { not_well = refused_not_well; undamaged = λ d. d; no_disk = λ e. cc }
mild_unasked (R.Query fault) = record { not_well = refused_not_well; undamaged = λ d. d; no_disk = λ e. cc }
mild_unasked R.Logs = record { not_well = refused_not_well; undamaged = λ d. d; no_disk = λ e. cc }
mild_unasked R.Memory = record { not_well = refused_not_well; undamaged = λ d. d; no_disk = λ e. cc }

pub mild_untemplated : (fault : NoTemplate) → IsMild (untemplated fault)
mild_untemplated (N.NoSuchLog name) = record { not_well = refused_not_well; undamaged = λ d. d; no_disk = λ e. cc }
mild_untemplated (N.Fault fault) = record { not_well = refused_not_well; undamaged = λ d. d; no_disk = λ e. cc }
mild_untemplated N.Logs = record { not_well = refused_not_well; undamaged = λ d. d; no_disk = λ e. cc }
mild_untemplated N.Memory = record { not_well = refused_not_well; undamaged = λ d. d; no_disk = λ e. cc }

pub mild_memory : IsMild S.Memory
mild_memory = record { not_well = refused_not_well; undamaged = λ d. d; no_disk = λ e. cc }

mild_misplaced : (fault : _) → IsMild (S.Query fault)
mild_misplaced fault = record { not_well = refused_not_well; undamaged = λ d. d; no_disk = λ e. cc }

mild_into : IsMild S.IntoNeeded
mild_into = record { not_well = refused_not_well; undamaged = λ d. d; no_disk = λ e. cc }

pub mild_unfit : (q : Query) (status : Status) → IsUnfit q status → IsMild status
mild_unfit q status (inl (at, is, same)) = subst IsMild (sym same) (mild_misplaced _)
mild_unfit q status (inr (none, into, same)) = subst IsMild (sym same) mild_into

-- no fault of a phase ends a run well
pub unsettled_not_well : (fault : LedgerRefused) → ending_by (unsettled fault) ≢ well
unsettled_not_well C.DiskFault = failed_not_well
unsettled_not_well (C.LedgerFault part at) = refused_not_well

-- Where no damage was told, the answer to a run that gives no counts ends as the run did, and tells of none.

abbrev EndsAs : Ending → Status → Type 0
EndsAs ending status = (ending ≡ ending_by status) × (IsDamaged status → ⊥)

of_refused : (why : Refused) → EndsAs refused (unplaced why)
of_refused W.TooManyOutputs = (refl, λ d. d)
of_refused (W.BadName fault) = (refl, λ d. d)
of_refused (W.NameClash name) = (refl, λ d. d)

of_fault : (fault : RunFault) → EndsAs (fault_ending fault) (stopped false fault)
of_fault (X.Plan fault) = (refl, λ d. d)
of_fault (X.Refused why) = of_refused why
of_fault X.LogsFault = (refl, λ d. d)
of_fault X.StageFault = (refl, λ d. d)
of_fault (X.ParseErrors log row) = (refl, λ d. d)
of_fault X.Memory = (refl, λ d. d)

of_load : (fault : LoadFault) → (IsLoadDamage fault → ⊥) → EndsAs (load_ending fault) (unloaded fault)
of_load P.DiskFault none = (refl, λ d. d)
of_load (P.LedgerFault part at) none = absurd (none tt)
of_load P.Memory none = (refl, λ d. d)

of_spans : (fault : SpanFault) → EndsAs refused (unspanned fault)
of_spans (F.NoSuchLog name) = (refl, λ d. d)
of_spans (F.LostLog stem number) = (refl, λ d. d)
of_spans (F.Shrunk name kept found) = (refl, λ d. d)
of_spans (F.InputChanged kept given) = (refl, λ d. d)
of_spans F.TooManyLogs = (refl, λ d. d)
of_spans F.LogsFault = (refl, λ d. d)
of_spans (F.BadName fault) = (refl, λ d. d)
of_spans F.Memory = (refl, λ d. d)

of_phase : (fault : LedgerRefused) → (IsFaultDamage fault → ⊥) → EndsAs disk_failed (unsettled fault)
of_phase C.DiskFault none = (refl, λ d. d)
of_phase (C.LedgerFault part at) none = absurd (none tt)

before_gate : (fault : LedgerRefused) → (IsFaultDamage fault → ⊥) → EndsAs (phase_ending fault) (unsettled fault)
before_gate C.DiskFault none = (refl, λ d. d)
before_gate (C.LedgerFault part at) none = absurd (none tt)

at : (ending : Ending) (answer status : Status) → status ≡ answer → EndsAs ending answer → EndsAs ending status
at ending answer status same ends = subst (λ (s : Status). EndsAs ending s) (sym same) ends

of_subquery : (fault : SubqueryFault) (status : Status) → IsUngivenAs fault status → EndsAs refused status
of_subquery (G.BadName fault) status is = at refused (S.BadName fault) status is (refl, λ d. d)
of_subquery (G.NoSuchLog name) status is = at refused (S.NoSuchLog name) status is (refl, λ d. d)
of_subquery G.TooManyLogs status is = at refused S.TooManyLogs status is (refl, λ d. d)
of_subquery (G.Clash name) status (inl is) = at refused (S.NameClash name) status is (refl, λ d. d)
of_subquery (G.Clash name) status (inr is) = at refused S.Memory status is (refl, λ d. d)
of_subquery (G.Plan fault) status is = at refused (ungiven (G.Plan fault)) status is (refl, λ d. d)
of_subquery (G.Bad log row) status is = at refused (S.ParseErrors log row) status is (refl, λ d. d)
of_subquery G.Logs status is = at refused S.LogsFault status is (refl, λ d. d)
of_subquery G.Memory status is = at refused S.Memory status is (refl, λ d. d)

of_stop : (stop : RunStop) (status : Status) → IsBrokenOff stop status → (IsDamagedStop stop → ⊥) → EndsAs (stop_ending stop) status
of_stop (B.Subquery fault) status is none = of_subquery fault status is
of_stop (B.Refused fault) status is none = at (fault_ending fault) (stopped false fault) status is (of_fault fault)
of_stop (B.BeforeGate fault) status is none = at (phase_ending fault) (unsettled fault) status is (before_gate fault none)
of_stop (B.FromGate fault) status is none = at disk_failed (unsettled fault) status is (of_phase fault none)

pub ends_as : (stop : LedgerStop) (status : Status) → IsAnswerTo stop status → (IsDamagedRun stop → ⊥) → (ledger_ending stop ≡ ending_by status) × (IsDamaged status → ⊥)
ends_as (L.Ledger fault) status is none = at (load_ending fault) (unloaded fault) status is (of_load fault none)
ends_as (L.Logs fault) status is none = at refused (unspanned fault) status is (of_spans fault)
ends_as (L.Clash name) status (inl is) none = at refused (S.NameClash name) status is (refl, λ d. d)
ends_as (L.Clash name) status (inr is) none = at refused S.Memory status is (refl, λ d. d)
ends_as (L.Run stop) status is none = of_stop stop status is none
ends_as L.Memory status is none = at refused S.Memory status is (refl, λ d. d)
