-- Why a run over spans is refused before its gate.
use Rattle.std.specs.Prelude.{ℕ, true, List, Option}
use Rattle.std.specs.Bool.{⊤}
use Rattle.commit.specs.Faults.{BreaksAt, FitsWhole, IsApart}
use Rattle.disk_model.specs.Disk.{DiskState}
use Rattle.run_entry.specs.Executed.{IsParseError, IsTypedInTurn, IsUnplaced, IsUnplanned}
use Rattle.run_entry.specs.Formats.{log_format}
use Rattle.run_entry.specs.Outputs.{asked_in}
use Rattle.run_entry.specs.RunFault.{RunFault}
use Rattle.run_entry.specs.RunFault.TheVariants as X
use Rattle.ledger.specs.declared.refused.LedgerRefused.{LedgerRefused}
use Rattle.ledger.specs.declared.refused.LedgerRefused.TheVariants as C
use Rattle.log_reading.specs.Spans.{bad_line}
use Rattle.log_reading.specs.declared.span.Span.{Span}
use Rattle.lp_model.specs.Outside.{Folder}
use Rattle.tpl_output.specs.Sections.{Sections}
use Rattle.run_entry.specs.Refusing.{StopsBy}
use Rattle.run_entry.specs.Entries.{Request}
use Rattle.checkpointed_run.specs.Filled.{IsBehind}
use Rattle.checkpointed_run.specs.declared.running.RunStop.{RunStop}
use Rattle.checkpointed_run.specs.declared.running.RunStop.TheVariants as R

-- the query has no plan, an output has no place, or a bad line of the spans is one too many, each in its turn
abbrev pub RefusedFor : Request → Sections → Option Folder → List Span → RunFault → Type 0
RefusedFor request template told spans (X.Plan fault) = IsUnplanned (log_format request.spec request.q) true told request.spec request.moment request.q spans fault × IsTypedInTurn (log_format request.spec request.q) true told request.spec request.q spans
RefusedFor request template told spans (X.Refused why) = IsUnplaced (log_format request.spec request.q) true told (asked_in request.spec template request.moment request.q spans) request.spec request.moment request.q spans why
RefusedFor request template told spans X.LogsFault = ⊤
RefusedFor request template told spans X.StageFault = ⊤
RefusedFor request template told spans (X.ParseErrors log row) = IsParseError (log_format request.spec request.q) true told ⊤ (asked_in request.spec template request.moment request.q spans) request.spec request.moment request.q spans (bad_line log row)
RefusedFor request template told spans X.Memory = ⊤

-- so it is with what the subqueries gave before, where the fault tells anything
abbrev pub RefusedBehind : Request → Sections → Option Folder → Option Folder → List Span → RunFault → Type 0
RefusedBehind request template began told spans (X.Plan fault) = IsBehind (λ filled. RefusedFor filled template told spans (X.Plan fault)) began told request
RefusedBehind request template began told spans (X.Refused why) = IsBehind (λ filled. RefusedFor filled template told spans (X.Refused why)) began told request
RefusedBehind request template began told spans X.LogsFault = ⊤
RefusedBehind request template began told spans X.StageFault = ⊤
RefusedBehind request template began told spans (X.ParseErrors log row) = IsBehind (λ filled. RefusedFor filled template told spans (X.ParseErrors log row)) began told request
RefusedBehind request template began told spans X.Memory = ⊤

-- a subquery is refused, or the run with what all of them gave
abbrev pub StopsFor : Request → Sections → Option Folder → Option Folder → List Span → RunStop → Type 0
StopsFor request template began told spans (R.Subquery fault) = StopsBy request.spec request.moment began told request.q fault
StopsFor request template began told spans (R.Refused fault) = RefusedBehind request template began told spans fault
StopsFor request template began told spans (R.BeforeGate fault) = ⊤
StopsFor request template began told spans (R.FromGate fault) = ⊤

-- a damage that a run is told is one of what a read gave before it, where no output of a run that isn't done is the ledger or the stage
abbrev pub IsDamage : DiskState → List ℕ → List ℕ → LedgerRefused → Type 0
IsDamage disk ledger stage C.DiskFault = ⊤
IsDamage disk ledger stage (C.LedgerFault part at) = disk.tells → IsApart ledger stage disk.seen → BreaksAt ledger stage disk.seen part at

-- what a read gave fits, likewise
abbrev pub FitsAsRead : DiskState → List ℕ → List ℕ → Type 0
FitsAsRead disk ledger stage = disk.tells → IsApart ledger stage disk.seen → FitsWhole ledger stage disk.seen

-- a damage of what a read gave is told before anything else that stops a run, and only where it breaks
abbrev pub StopsAtDamage : DiskState → List ℕ → List ℕ → RunStop → Type 0
StopsAtDamage disk ledger stage (R.Subquery fault) = FitsAsRead disk ledger stage
StopsAtDamage disk ledger stage (R.Refused fault) = FitsAsRead disk ledger stage
StopsAtDamage disk ledger stage (R.BeforeGate fault) = IsDamage disk ledger stage fault
StopsAtDamage disk ledger stage (R.FromGate fault) = FitsAsRead disk ledger stage
