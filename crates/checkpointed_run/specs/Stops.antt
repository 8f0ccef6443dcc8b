-- Where a run over a ledger stops, and for what cause.
use Rattle.std.specs.Bool.{⊤}
use Rattle.run_entry.specs.RunFault.{RunFault}
use Rattle.run_entry.specs.RunFault.TheVariants as X
use Rattle.ledger.specs.declared.refused.LedgerRefused.{LedgerRefused}
use Rattle.ledger.specs.declared.refused.LedgerRefused.TheVariants as R
use Rattle.run_entry.specs.SubqueryFault.{SubqueryFault}
use Rattle.run_entry.specs.SubqueryFault.TheVariants as Q
use Rattle.checkpointed_run.specs.declared.running.RunStop.{RunStop}
use Rattle.checkpointed_run.specs.declared.running.RunStop.TheVariants as S

abbrev pub IsBeforeGate : RunStop → Type 0
IsBeforeGate (S.Subquery fault) = ⊤
IsBeforeGate (S.Refused fault) = ⊤
IsBeforeGate (S.BeforeGate fault) = ⊤
IsBeforeGate (S.FromGate fault) = ⊥

abbrev pub IsFromGate : RunStop → Type 0
IsFromGate (S.Subquery fault) = ⊥
IsFromGate (S.Refused fault) = ⊥
IsFromGate (S.BeforeGate fault) = ⊥
IsFromGate (S.FromGate fault) = ⊤

-- a damage of the ledger or of the stage was told, before the gate or from there on
abbrev pub IsFaultDamage : LedgerRefused → Type 0
IsFaultDamage R.DiskFault = ⊥
IsFaultDamage (R.LedgerFault part at) = ⊤

abbrev pub IsDamagedStop : RunStop → Type 0
IsDamagedStop (S.Subquery fault) = ⊥
IsDamagedStop (S.Refused fault) = ⊥
IsDamagedStop (S.BeforeGate fault) = IsFaultDamage fault
IsDamagedStop (S.FromGate fault) = IsFaultDamage fault

-- a call failed only where its object counted a fault
abbrev pub RunReason : Type 0 → Type 0 → RunFault → Type 0
RunReason logs disk (X.Plan fault) = ⊤
RunReason logs disk (X.Refused why) = ⊤
RunReason logs disk X.LogsFault = logs
RunReason logs disk X.StageFault = disk
RunReason logs disk (X.ParseErrors log row) = ⊤
RunReason logs disk X.Memory = ⊤

abbrev pub SubqueryReason : Type 0 → SubqueryFault → Type 0
SubqueryReason logs (Q.BadName fault) = ⊤
SubqueryReason logs (Q.NoSuchLog name) = ⊤
SubqueryReason logs Q.TooManyLogs = ⊤
SubqueryReason logs (Q.Clash name) = ⊤
SubqueryReason logs (Q.Plan fault) = ⊤
SubqueryReason logs (Q.Bad log row) = ⊤
SubqueryReason logs Q.Logs = logs
SubqueryReason logs Q.Memory = ⊤

abbrev pub DiskReason : Type 0 → LedgerRefused → Type 0
DiskReason disk R.DiskFault = disk
DiskReason disk (R.LedgerFault part at) = ⊤

abbrev pub HasReason : Type 0 → Type 0 → RunStop → Type 0
HasReason logs disk (S.Subquery fault) = SubqueryReason logs fault
HasReason logs disk (S.Refused fault) = RunReason logs disk fault
HasReason logs disk (S.BeforeGate fault) = DiskReason disk fault
HasReason logs disk (S.FromGate fault) = DiskReason disk fault
