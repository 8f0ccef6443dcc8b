-- How a grouped run over sampled columns ends.
use Rattle.std.specs.Prelude.{◌≡◌, ◌⊎◌, ℕ, Bool, List, [], length, None, Ok, Err}
use Rattle.lp_model.specs.Outside.{Folder}
use Rattle.lp_model.specs.Reading.{Format}
use Rattle.log_reading.specs.declared.span.RunFault.{RunFault}
use Rattle.log_reading.specs.declared.span.Span.{Span}
use Rattle.log_reading.specs.Spans.{spans_bad}
use Rattle.text_output.specs.Output.{StageKind}
use Rattle.text_output.specs.declared.target.Output.{Output}
use Rattle.row_output.specs.Asked.{left_of}
use Rattle.row_output.specs.Rows.{Holds, Stops}
use Rattle.row_output.specs.Rows.{IsRefused as IsRefusedOutput}
use Rattle.row_output.specs.declared.fault.Refused.{Refused}
use Rattle.query_run.specs.declared.executing.Written.{Written}
use Rattle.group_planning.specs.Groups.{Grouped}
use Rattle.query_types.specs.declared.fault.TypeFault.{TypeFault}
use Rattle.column_kinds.specs.declared.maker.Stop.{Stop}
use Rattle.column_kinds.specs.declared.maker.Stop.TheVariants as S
use Rattle.column_kinds.specs.declared.phase.Phase.{Phase}
use Rattle.column_kinds.specs.declared.phase.Phase.TheVariants as P
use Rattle.column_kinds.specs.Past.{Past}
use Rattle.sampled_run.specs.declared.fault.SampleFault.{SampleFault}
use Rattle.sampled_run.specs.declared.fault.SampleFault.TheVariants as F
use Rattle.sampled_run.specs.Ran.{read_fault, refused_in}
use Rattle.sampled_groups.specs.declared.group_taker.GroupTaker.{GroupTaker}
use Rattle.sampled_groups.specs.Rules.{GroupRules, plan_at, rows_at}

-- the query has no plan by groups, by this fault, and nothing is written
pub record IsUntypedGroups {S : Type 0} (rules : GroupRules) (start : S) (past : Past) (why : TypeFault) (now : S) : Type 0 where
  pub fault : plan_at rules past ≡ Err why
  pub nothing : now ≡ start

-- its rows were to be written
pub record IsWithin {S : Type 0} (kind : StageKind S) (rules : GroupRules) (start : S) (past : Past) (now : S) : Type 0 where
  pub plan : Grouped
  pub planned : plan_at rules past ≡ Ok plan
  pub stops : Stops kind (rules.asked plan.groups) start (rows_at rules past plan) now

-- an output of its rows is refused
pub record IsUnplaced {S : Type 0} (kind : StageKind S) (rules : GroupRules) (start : S) (past : Past) (why : Refused) (now : S) : Type 0 where
  pub plan : Grouped
  pub planned : plan_at rules past ≡ Ok plan
  pub stops : Stops kind (rules.asked plan.groups) start (rows_at rules past plan) now
  pub refused : IsRefusedOutput (rules.asked plan.groups) (rows_at rules past plan) why

-- the output of a name without stars is refused, before any row
pub record IsUnplacedFirst (rules : GroupRules) (past : Past) (why : Refused) : Type 0 where
  pub plan : Grouped
  pub planned : plan_at rules past ≡ Ok plan
  pub refused : IsRefusedOutput (rules.asked plan.groups) [] why

-- nothing is written, or its rows were to be
abbrev pub IsFront : {S : Type 0} → StageKind S → GroupRules → S → Past → S → Type 0
IsFront kind rules start past now = (now ≡ start) ⊎ IsWithin kind rules start past now

-- its rows are written whole
pub record IsWritten {S : Type 0} (kind : StageKind S) (rules : GroupRules) (start : S) (past : Past) (many : ℕ) (outputs : List Output) (now : S) : Type 0 where
  pub plan : Grouped
  pub planned : plan_at rules past ≡ Ok plan
  pub holds : Holds kind (rules.asked plan.groups) start (rows_at rules past plan) outputs now
  pub rows : many ≡ length (left_of (rules.asked plan.groups) (rows_at rules past plan))

-- they were written whole, and the counts are those of the spans
pub record IsSampled {S : Type 0} (kind : StageKind S) (rules : GroupRules) (start : S) (past : Past) (format : Format) (waits : Bool) (folder : Folder) (spans : List Span) (run : Written) (now : S) : Type 0 where
  pub written : IsWritten kind rules start past run.counts.output run.outputs now
  pub processed : run.counts.processed ≡ length past.founds
  pub bad : run.counts.bad ≡ length (spans_bad format waits folder spans)

-- the query has no plan, an output is refused, or the rows were to be written
abbrev pub IsStoppedBy : {S : Type 0} → StageKind S → GroupRules → S → Past → SampleFault → S → Type 0
IsStoppedBy kind rules start past (F.Plan fault) now = IsUntypedGroups rules start past fault now
IsStoppedBy kind rules start past (F.Refused why) now = IsUnplaced kind rules start past why now
IsStoppedBy kind rules start past (F.Bad log row) now = IsFront kind rules start past now
IsStoppedBy kind rules start past F.Logs now = IsFront kind rules start past now
IsStoppedBy kind rules start past F.Output now = IsFront kind rules start past now
IsStoppedBy kind rules start past F.Memory now = IsFront kind rules start past now

-- why a run stops, where the reading of its logs did
abbrev pub fault_in : {M : Type 0} → Phase M GroupTaker → RunFault → SampleFault
fault_in (P.Refused plan) fault = F.Plan plan
fault_in (P.Gathering gathering) fault = read_fault fault None
fault_in (P.Taking taker) fault = read_fault fault taker.refused
fault_in P.Lost fault = read_fault fault None

-- why a run stops at its end
abbrev pub fault_of : Stop GroupTaker → SampleFault
fault_of (S.Refused fault) = F.Plan fault
fault_of (S.Stopped taker) = refused_in taker.refused
fault_of S.Failed = F.Output
fault_of S.Memory = F.Memory
