-- How a run over sampled columns ends.
use Rattle.std.specs.Prelude.{◌≡◌, ◌⊎◌, ℕ, Bool, List, length, Option, Some, None, Ok, Err, ⊤}
use Rattle.lp_model.specs.Outside.{Folder}
use Rattle.lp_model.specs.Reading.{Format}
use Rattle.log_reading.specs.declared.span.RunFault.{RunFault}
use Rattle.log_reading.specs.declared.span.RunFault.TheVariants as R
use Rattle.log_reading.specs.declared.span.Span.{Span}
use Rattle.log_reading.specs.Spans.{BadLine, spans_bad}
use Rattle.text_output.specs.Output.{StageKind}
use Rattle.text_output.specs.declared.target.Output.{Output}
use Rattle.row_output.specs.Asked.{left_of}
use Rattle.row_output.specs.Rows.{Holds, Stops}
use Rattle.row_output.specs.Rows.{IsRefused as IsRefusedOutput}
use Rattle.row_output.specs.declared.fault.OutputFault.{OutputFault}
use Rattle.row_output.specs.declared.fault.OutputFault.TheVariants as O
use Rattle.row_output.specs.declared.fault.Refused.{Refused}
use Rattle.query_run.specs.declared.executing.Written.{Written}
use Rattle.query_run.specs.declared.writer.Writer.{Writer}
use Rattle.query_types.specs.Planned.{Planned}
use Rattle.query_types.specs.declared.fault.TypeFault.{TypeFault}
use Rattle.column_kinds.specs.declared.maker.Stop.{Stop}
use Rattle.column_kinds.specs.declared.maker.Stop.TheVariants as S
use Rattle.column_kinds.specs.declared.phase.Phase.{Phase}
use Rattle.column_kinds.specs.declared.phase.Phase.TheVariants as P
use Rattle.column_kinds.specs.Past.{Past}
use Rattle.sampled_run.specs.declared.fault.SampleFault.{SampleFault}
use Rattle.sampled_run.specs.declared.fault.SampleFault.TheVariants as F
use Rattle.sampled_run.specs.Rules.{Rules, plan_at, rows_at}

-- the query has no plan, by this fault, and nothing is written
pub record IsUntyped {S : Type 0} (rules : Rules) (start : S) (past : Past) (why : TypeFault) (now : S) : Type 0 where
  pub fault : plan_at rules past ≡ Err why
  pub nothing : now ≡ start

-- its rows were to be written
pub record IsWithin {S : Type 0} (kind : StageKind S) (rules : Rules) (start : S) (past : Past) (now : S) : Type 0 where
  pub plan : Planned
  pub planned : plan_at rules past ≡ Ok plan
  pub stops : Stops kind (rules.asked plan) start (rows_at rules past plan) now

-- an output of its rows is refused
pub record IsUnplaced {S : Type 0} (kind : StageKind S) (rules : Rules) (start : S) (past : Past) (why : Refused) (now : S) : Type 0 where
  pub plan : Planned
  pub planned : plan_at rules past ≡ Ok plan
  pub stops : Stops kind (rules.asked plan) start (rows_at rules past plan) now
  pub refused : IsRefusedOutput (rules.asked plan) (rows_at rules past plan) why

-- nothing is written, or its rows were to be
abbrev pub IsFront : {S : Type 0} → StageKind S → Rules → S → Past → S → Type 0
IsFront kind rules start past now = (now ≡ start) ⊎ IsWithin kind rules start past now

-- its rows are written whole
pub record IsWritten {S : Type 0} (kind : StageKind S) (rules : Rules) (start : S) (past : Past) (many : ℕ) (outputs : List Output) (now : S) : Type 0 where
  pub plan : Planned
  pub planned : plan_at rules past ≡ Ok plan
  pub holds : Holds kind (rules.asked plan) start (rows_at rules past plan) outputs now
  pub rows : many ≡ length (left_of (rules.asked plan) (rows_at rules past plan))

-- they were written whole, and the counts are those of the spans
pub record IsSampled {S : Type 0} (kind : StageKind S) (rules : Rules) (start : S) (past : Past) (format : Format) (waits : Bool) (folder : Folder) (spans : List Span) (run : Written) (now : S) : Type 0 where
  pub written : IsWritten kind rules start past run.counts.output run.outputs now
  pub processed : run.counts.processed ≡ length past.founds
  pub bad : run.counts.bad ≡ length (spans_bad format waits folder spans)

-- the query has no plan, an output is refused, or the rows were to be written
abbrev pub IsStoppedBy : {S : Type 0} → StageKind S → Rules → S → Past → SampleFault → S → Type 0
IsStoppedBy kind rules start past (F.Plan fault) now = IsUntyped rules start past fault now
IsStoppedBy kind rules start past (F.Refused why) now = IsUnplaced kind rules start past why now
IsStoppedBy kind rules start past (F.Bad log row) now = IsFront kind rules start past now
IsStoppedBy kind rules start past F.Logs now = IsFront kind rules start past now
IsStoppedBy kind rules start past F.Output now = IsFront kind rules start past now
IsStoppedBy kind rules start past F.Memory now = IsFront kind rules start past now

-- P of the bad line that is one too many, where that is why a run stops
abbrev pub OnBadOne : SampleFault → (BadLine → Type 0) → Type 0
OnBadOne (F.Plan fault) P = ⊤
OnBadOne (F.Refused why) P = ⊤
OnBadOne (F.Bad log row) P = P (record { log = log; row = row })
OnBadOne F.Logs P = ⊤
OnBadOne F.Output P = ⊤
OnBadOne F.Memory P = ⊤

-- a run's end may stop by this fault: none is of the logs
abbrev pub IsOfEnd : SampleFault → Type 0
IsOfEnd (F.Plan fault) = ⊤
IsOfEnd (F.Refused why) = ⊤
IsOfEnd (F.Bad log row) = ⊥
IsOfEnd F.Logs = ⊥
IsOfEnd F.Output = ⊤
IsOfEnd F.Memory = ⊤

-- an output was refused for this, or memory was
abbrev pub refused_in : Option Refused → SampleFault
refused_in None = F.Memory
refused_in (Some why) = F.Refused why

-- why a run stops, where the reading of its logs did
abbrev pub read_fault : RunFault → Option Refused → SampleFault
read_fault R.Memory refused = F.Memory
read_fault R.Logs refused = F.Logs
read_fault R.Output refused = F.Output
read_fault R.Stopped refused = refused_in refused
read_fault (R.Bad log row) refused = F.Bad log row

abbrev pub fault_in : {M P : Type 0} → Phase M (Writer P) → RunFault → SampleFault
fault_in (P.Refused plan) fault = F.Plan plan
fault_in (P.Gathering gathering) fault = read_fault fault None
fault_in (P.Taking writer) fault = read_fault fault writer.refused
fault_in P.Lost fault = read_fault fault None

-- why a run stops at its end
abbrev pub fault_of : {P : Type 0} → Stop (Writer P) → SampleFault
fault_of (S.Refused fault) = F.Plan fault
fault_of (S.Stopped writer) = refused_in writer.refused
fault_of S.Failed = F.Output
fault_of S.Memory = F.Memory

abbrev pub ended_by : OutputFault → SampleFault
ended_by (O.Refused why) = F.Refused why
ended_by O.Failed = F.Output
ended_by O.Memory = F.Memory
