-- Why a run was refused, and which damage stopped it or that none did, from what its calls tell.
use Rattle.std.proofs.Common.{◌≡◌, ℕ, true, List, Option, Err, refl}
use Rattle.std.specs.Bool.{⊤}
use Rattle.std.specs.Result.{IsErrOf}
use Rattle.commit.specs.Faults.{BreaksAt, IsApart}
use Rattle.commit.specs.Resume.{CanSettle}
use Rattle.disk_model.specs.Disk.{DiskState, IsImage}
use Rattle.run_entry.specs.Executed.{IsParseError, IsTypedInTurn, IsUnplaced, IsUnplanned}
use Rattle.run_entry.specs.Faults.{IfParse, IfPlan, IfRefused}
use Rattle.run_entry.specs.Formats.{log_format}
use Rattle.run_entry.specs.Outputs.{asked_in}
use Rattle.lp_model.specs.Outside.{Folder}
use Rattle.tpl_output.specs.Sections.{Sections}
use Rattle.run_entry.specs.Entries.{Request}
use Rattle.run_entry.specs.RunFault.{RunFault}
use Rattle.run_entry.specs.RunFault.TheVariants as X
use Rattle.ledger_model.proofs.Reading.{ledger_apart}
use Rattle.positions.specs.declared.fault.LoadFault.TheVariants as P
use Rattle.run_model.specs.Logs.{Rotation}
use Rattle.ledger.specs.declared.refused.LedgerRefused.{LedgerRefused}
use Rattle.ledger.specs.declared.refused.LedgerRefused.TheVariants as C
use Rattle.ledger.specs.declared.refused.Part2.{Part2}
use Rattle.log_reading.specs.Spans.{bad_line}
use Rattle.log_reading.specs.declared.span.Span.{Span}
use Rattle.run_entry.proofs.InTurns.{exceeded_map}
use Rattle.checkpointed_run.specs.Reasons.{FitsAsRead, IsDamage, RefusedFor, StopsAtDamage}
use Rattle.checkpointed_run.specs.Refusals.{IsAtDamage, IsNotBegun}
use Rattle.checkpointed_run.specs.Steps.{IsDamaged}
use Rattle.run_entry.specs.SubqueryFault.{SubqueryFault}
use Rattle.run_entry.specs.SubqueryFault.TheVariants as Q
use Rattle.checkpointed_run.specs.Stops.{HasReason, IsDamagedStop, IsFaultDamage, RunReason, SubqueryReason}
use Rattle.checkpointed_run.specs.declared.over.LedgerStop.{LedgerStop}
use Rattle.checkpointed_run.specs.declared.over.LedgerStop.TheVariants as L
use Rattle.checkpointed_run.specs.declared.staging.StagedRun.{StagedRun}
use Rattle.checkpointed_run.specs.declared.running.RunStop.{RunStop}
use Rattle.checkpointed_run.specs.declared.running.RunStop.TheVariants as R

-- why a run is refused, as it was told
pub refused_for : (request : Request) (template : Sections) (told : Option Folder) (spans : List Span) (Nothing : Type 0) (fault : RunFault)
    → IfRefused {T = StagedRun} (Err fault) (IsUnplaced (log_format request.spec request.q) true told (asked_in request.spec template request.moment request.q spans) request.spec request.moment request.q spans)
    → IfPlan {T = StagedRun} (Err fault) (IsUnplanned (log_format request.spec request.q) true told request.spec request.moment request.q spans)
    → IfPlan {T = StagedRun} (Err fault) (λ fault. IsTypedInTurn (log_format request.spec request.q) true told request.spec request.q spans)
    → IfParse {T = StagedRun} (Err fault) (IsParseError (log_format request.spec request.q) true told Nothing (asked_in request.spec template request.moment request.q spans) request.spec request.moment request.q spans) → RefusedFor request template told spans fault
refused_for request template told spans Nothing (X.Plan fault) refused plan turn parse = (plan, turn)
refused_for request template told spans Nothing (X.Refused why) refused plan turn parse = refused
refused_for request template told spans Nothing X.LogsFault refused plan turn parse = tt
refused_for request template told spans Nothing X.StageFault refused plan turn parse = tt
refused_for request template told spans Nothing (X.ParseErrors log row) refused plan turn parse = exceeded_map (log_format request.spec request.q) true told Nothing ⊤ (asked_in request.spec template request.moment request.q spans) request.spec request.moment request.q spans (bad_line log row) (λ nothing. tt) parse
refused_for request template told spans Nothing X.Memory refused plan turn parse = tt

-- what breaks when it is settled
pub damage_is : {T : Type 0} (disk : DiskState) (ledger stage : List ℕ) (fault : LedgerRefused)
    → ((part : Part2) (p : ℕ) → IsErrOf {T = T} {E = LedgerRefused} (Err fault) (C.LedgerFault part p) → disk.tells → IsApart ledger stage disk.seen → BreaksAt ledger stage disk.seen part p) → IsDamage disk ledger stage fault
damage_is disk ledger stage C.DiskFault breaks = tt
damage_is disk ledger stage (C.LedgerFault part at) breaks = breaks part at refl

-- a run that tells no damage has found none, where what was read fits
pub not_damaged : (disk : DiskState) (ledger stage : List ℕ) (stop : RunStop) → (IsDamagedStop stop → ⊥) → FitsAsRead disk ledger stage → StopsAtDamage disk ledger stage stop
not_damaged disk ledger stage (R.Subquery fault) none fits = fits
not_damaged disk ledger stage (R.Refused fault) none fits = fits
not_damaged disk ledger stage (R.BeforeGate C.DiskFault) none fits = tt
not_damaged disk ledger stage (R.BeforeGate (C.LedgerFault part at)) none fits = absurd (none tt)
not_damaged disk ledger stage (R.FromGate fault) none fits = fits

-- a fault that was counted behind a moment was counted behind an earlier one
pub reason_earlier : (logs disk since : Type 0) (stop : RunStop) → (disk → since) → HasReason logs disk stop → HasReason logs since stop
reason_earlier logs disk since (R.Subquery fault) to is = is
reason_earlier logs disk since (R.Refused fault) to is = of_run fault is
  where
    of_run : (fault : RunFault) → RunReason logs disk fault → RunReason logs since fault
    of_run (X.Plan fault) is = tt
    of_run (X.Refused why) is = tt
    of_run X.LogsFault is = is
    of_run X.StageFault is = to is
    of_run (X.ParseErrors log row) is = tt
    of_run X.Memory is = tt
reason_earlier logs disk since (R.BeforeGate C.DiskFault) to is = to is
reason_earlier logs disk since (R.BeforeGate (C.LedgerFault part at)) to is = tt
reason_earlier logs disk since (R.FromGate C.DiskFault) to is = to is
reason_earlier logs disk since (R.FromGate (C.LedgerFault part at)) to is = tt

-- a refused run by its fault, whose calls failed for a reason
pub run_reason : {T : Type 0} (logs disk : Type 0) (fault : RunFault) → (IsErrOf {T = T} (Err fault) X.LogsFault → logs) → (IsErrOf {T = T} (Err fault) X.StageFault → disk) → RunReason logs disk fault
run_reason logs disk (X.Plan fault) of_logs of_disk = tt
run_reason logs disk (X.Refused why) of_logs of_disk = tt
run_reason logs disk X.LogsFault of_logs of_disk = of_logs refl
run_reason logs disk X.StageFault of_logs of_disk = of_disk refl
run_reason logs disk (X.ParseErrors log row) of_logs of_disk = tt
run_reason logs disk X.Memory of_logs of_disk = tt

pub subquery_reason : {T : Type 0} (logs : Type 0) (fault : SubqueryFault) → (IsErrOf {T = T} (Err fault) Q.Logs → logs) → SubqueryReason logs fault
subquery_reason logs (Q.BadName fault) of_logs = tt
subquery_reason logs (Q.NoSuchLog name) of_logs = tt
subquery_reason logs Q.TooManyLogs of_logs = tt
subquery_reason logs (Q.Clash name) of_logs = tt
subquery_reason logs (Q.Plan fault) of_logs = tt
subquery_reason logs (Q.Bad log row) of_logs = tt
subquery_reason logs Q.Logs of_logs = of_logs refl
subquery_reason logs Q.Memory of_logs = tt

-- no damage was told where each was ruled out
pub none_told : {T : Type 0} (fault : LedgerRefused) → ((part : Part2) (p : ℕ) → IsErrOf {T = T} {E = LedgerRefused} (Err fault) (C.LedgerFault part p) → ⊥) → IsFaultDamage fault → ⊥
none_told C.DiskFault none told = told
none_told (C.LedgerFault part at) none told = none part at refl

-- a ledger that can be settled breaks nowhere
pub none_loaded : (disk : DiskState) (ledger stage : List ℕ) (rotation : Rotation) (input : List ℕ) (texts : List (List ℕ)) (before now : Option Folder) (stop : LedgerStop)
    → disk.tells → IsImage disk disk.seen → CanSettle disk ledger stage → IsNotBegun disk ledger rotation input texts before now stop → IsDamaged stop → ⊥
none_loaded disk ledger stage rotation input texts before now (L.Ledger P.DiskFault) tells is can not_begun told = told
none_loaded disk ledger stage rotation input texts before now (L.Ledger (P.LedgerFault part at)) tells is can not_begun told =
    let state = can.images.each disk.seen is in
    ledger_apart (disk.seen ledger) state.2.pairs at state.2.is_ledger (not_begun (disk.seen ledger) (record { tells = tells; seen = refl })).1
none_loaded disk ledger stage rotation input texts before now (L.Ledger P.Memory) tells is can not_begun told = told
none_loaded disk ledger stage rotation input texts before now (L.Logs fault) tells is can not_begun told = told
none_loaded disk ledger stage rotation input texts before now (L.Clash name) tells is can not_begun told = told
none_loaded disk ledger stage rotation input texts before now (L.Run stop) tells is can not_begun told = not_begun
none_loaded disk ledger stage rotation input texts before now L.Memory tells is can not_begun told = told

-- a run that hadn't begun was told none behind the load
pub none_begun : (disk : DiskState) (ledger stage : List ℕ) (rotation : Rotation) (input : List ℕ) (texts : List (List ℕ)) (before now : Option Folder) (stop : LedgerStop) → IsNotBegun disk ledger rotation input texts before now stop → IsAtDamage disk ledger stage stop
none_begun disk ledger stage rotation input texts before now (L.Ledger fault) not_begun = tt
none_begun disk ledger stage rotation input texts before now (L.Logs fault) not_begun = tt
none_begun disk ledger stage rotation input texts before now (L.Clash name) not_begun = tt
none_begun disk ledger stage rotation input texts before now (L.Run stop) not_begun = absurd not_begun
none_begun disk ledger stage rotation input texts before now L.Memory not_begun = tt
