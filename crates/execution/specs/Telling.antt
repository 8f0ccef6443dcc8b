-- How a run over columns that its logs tell ends, by a plan over rows or over groups.
use Rattle.std.specs.Prelude.{◌≡◌, ◌⊎◌, ℕ, ℤ, Bool, List, [], length, Option, Result, Ok, Err, ⊤}
use Rattle.grammar.specs.Trees.{Query}
use Rattle.lp_model.specs.Outside.{Folder}
use Rattle.lp_model.specs.Reading.{Format}
use Rattle.lp_time.specs.declared.piece.Piece.{Piece}
use Rattle.lp_values.specs.declared.value.Value.{Value}
use Rattle.log_reading.specs.declared.span.Span.{Span}
use Rattle.log_reading.specs.Found.{Found}
use Rattle.log_reading.specs.Spans.{bad_line, spans_bad}
use Rattle.log_reading.specs.UpTo.{found_up_to}
use Rattle.text_output.specs.Output.{StageKind}
use Rattle.row_output.specs.Asked.{Asked, left_of}
use Rattle.row_output.specs.Rows.{Holds, Stops}
use Rattle.row_output.specs.Rows.{IsRefused as IsRefusedOutput}
use Rattle.row_output.specs.declared.fault.Refused.{Refused}
use Rattle.query_run.specs.declared.executing.Written.{Written}
use Rattle.query_types.specs.declared.fault.TypeFault.{TypeFault}
use Rattle.column_kinds.specs.Judged.{table_of}
use Rattle.column_kinds.specs.InTurn.{BadInTurn, BehindSample}
use Rattle.column_kinds.specs.Past.{Past, told_at}
use Rattle.sampled_run.specs.declared.fault.SampleFault.{SampleFault}
use Rattle.sampled_run.specs.declared.fault.SampleFault.TheVariants as F
use Rattle.execution.specs.InTurn.{IsEarly}
use Rattle.execution.specs.Plans.{PlannedQuery, query_plan, told_rows}

-- what a run is asked: from how many records kinds are judged, how times are read, the moment, the query, and, by a plan, what becomes of its rows
pub record Telling : Type 0 where
  pub limit : ℕ
  pub pattern : List Piece
  pub moment : ℤ
  pub query : Query
  pub asked : PlannedQuery → Asked

abbrev pub telling : ℕ → List Piece → ℤ → Query → (PlannedQuery → Asked) → Telling
telling limit pattern moment q asked = record { limit = limit; pattern = pattern; moment = moment; query = q; asked = asked }

-- the plan over the table of the columns that the records tell, or its fault
abbrev pub plan_at : Telling → Past → Result PlannedQuery TypeFault
plan_at rules past = query_plan (table_of (told_at rules.limit rules.pattern past)) rules.moment rules.query

-- its output rows
abbrev pub rows_at : Telling → Past → PlannedQuery → List (List Value)
rows_at rules past plan = told_rows rules.pattern (told_at rules.limit rules.pattern past) plan past.founds

-- the query has no plan, by this fault, and nothing is written
pub record IsUntypedRun {S : Type 0} (rules : Telling) (start : S) (past : Past) (why : TypeFault) (now : S) : Type 0 where
  pub fault : plan_at rules past ≡ Err why
  pub nothing : now ≡ start

-- its rows were to be written
pub record IsWithin {S : Type 0} (kind : StageKind S) (rules : Telling) (start : S) (past : Past) (now : S) : Type 0 where
  pub plan : PlannedQuery
  pub planned : plan_at rules past ≡ Ok plan
  pub stops : Stops kind (rules.asked plan) start (rows_at rules past plan) now

-- an output of its rows is refused
pub record IsUnplaced {S : Type 0} (kind : StageKind S) (rules : Telling) (start : S) (past : Past) (why : Refused) (now : S) : Type 0 where
  pub plan : PlannedQuery
  pub planned : plan_at rules past ≡ Ok plan
  pub stops : Stops kind (rules.asked plan) start (rows_at rules past plan) now
  pub refused : IsRefusedOutput (rules.asked plan) (rows_at rules past plan) why

-- an output of the rows of these records is refused; they are all, where rows wait for the last
pub record IsUnplacedAt (rules : Telling) (past : Past) (founds : List Found) (rest : List Span) (why : Refused) : Type 0 where
  pub plan : PlannedQuery
  pub planned : plan_at rules past ≡ Ok plan
  pub refused : IsRefusedOutput (rules.asked plan) (told_rows rules.pattern (told_at rules.limit rules.pattern past) plan founds) why
  pub early : IsEarly plan (rules.asked plan) why ⊎ (rest ≡ [])

-- the query has a plan, and no output of the rows of these records is refused that may be before the last line is read
pub record ArePlaced (rules : Telling) (past : Past) (founds : List Found) : Type 0 where
  pub plan : PlannedQuery
  pub planned : plan_at rules past ≡ Ok plan
  pub placed : (why : Refused) → IsEarly plan (rules.asked plan) why → IsRefusedOutput (rules.asked plan) (told_rows rules.pattern (told_at rules.limit rules.pattern past) plan founds) why → ⊥

-- a fault comes in its turn
abbrev pub TellsInTurn : {S : Type 0} → Telling → S → Past → Option ℕ → Format → Bool → Folder → List Span → SampleFault → S → Type 0
TellsInTurn rules start past most_bad format waits folder spans (F.Plan fault) now = BehindSample rules.limit most_bad 0 format waits folder spans (λ up. ⊤)
TellsInTurn rules start past most_bad format waits folder spans (F.Refused why) now = BehindSample rules.limit most_bad 0 format waits folder spans (λ up. IsUnplacedAt rules past (found_up_to format waits folder spans up) up.rest why)
TellsInTurn rules start past most_bad format waits folder spans (F.Bad log row) now = BadInTurn rules.limit most_bad 0 format waits folder spans (bad_line log row) (now ≡ start) (ArePlaced rules past)
TellsInTurn rules start past most_bad format waits folder spans F.Logs now = ⊤
TellsInTurn rules start past most_bad format waits folder spans F.Output now = ⊤
TellsInTurn rules start past most_bad format waits folder spans F.Memory now = ⊤

-- nothing is written, or its rows were to be
abbrev pub IsFront : {S : Type 0} → StageKind S → Telling → S → Past → S → Type 0
IsFront kind rules start past now = (now ≡ start) ⊎ IsWithin kind rules start past now

-- its rows are written whole, and the counts are those of the spans
pub record IsTold {S : Type 0} (kind : StageKind S) (rules : Telling) (start : S) (past : Past) (format : Format) (waits : Bool) (folder : Folder) (spans : List Span) (run : Written) (now : S) : Type 0 where
  pub plan : PlannedQuery
  pub planned : plan_at rules past ≡ Ok plan
  pub holds : Holds kind (rules.asked plan) start (rows_at rules past plan) run.outputs now
  pub rows : run.counts.output ≡ length (left_of (rules.asked plan) (rows_at rules past plan))
  pub processed : run.counts.processed ≡ length past.founds
  pub bad : run.counts.bad ≡ length (spans_bad format waits folder spans)

-- the query has no plan, an output is refused, or the rows were to be written
abbrev pub IsStoppedBy : {S : Type 0} → StageKind S → Telling → S → Past → SampleFault → S → Type 0
IsStoppedBy kind rules start past (F.Plan fault) now = IsUntypedRun rules start past fault now
IsStoppedBy kind rules start past (F.Refused why) now = IsUnplaced kind rules start past why now
IsStoppedBy kind rules start past (F.Bad log row) now = IsFront kind rules start past now
IsStoppedBy kind rules start past F.Logs now = IsFront kind rules start past now
IsStoppedBy kind rules start past F.Output now = IsFront kind rules start past now
IsStoppedBy kind rules start past F.Memory now = IsFront kind rules start past now
