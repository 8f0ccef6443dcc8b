-- What becomes of the rows of a query.
use Rattle.std.specs.Prelude.{◌≡◌, ◌⊎◌, ◌<◌, ◌+◌, ℕ, true, length, List, [], ◌∷◌, Option, Some, None}
use Rattle.lp_outside.specs.declared.stage.Mark.{Mark}
use Rattle.lp_outside.specs.Stages.{no_mark}
use Rattle.lp_outside.specs.Gained.{standard_output}
use Rattle.order_top.specs.Finish.{Row}
use Rattle.text_output.specs.Output.{StageKind, OutputAt, GainsText, GainsFront, placed_at}
use Rattle.text_output.specs.declared.target.Output.{Output}
use Rattle.row_output.specs.Asked.{Files, Asked, OutputText, IsRefusedBy, left_of, asked_text}
use Rattle.row_output.specs.Files.{FilesHold, FilesStop}
use Rattle.row_output.specs.Orders.{IsPlain}
use Rattle.row_output.specs.declared.fault.Refused.{Refused}

-- standard output before its first byte
abbrev pub standard_at : {S : Type 0} → (kind : StageKind S) → S → OutputAt kind
standard_at kind stage = record { output = 0; name = standard_output; base = 0; mark = no_mark; stage = stage }

-- standard output at a moment, with a text up to a mark
abbrev pub standard_to : {S : Type 0} → (kind : StageKind S) → Mark → S → OutputAt kind
standard_to kind mark stage = record { output = 0; name = standard_output; base = 0; mark = mark; stage = stage }

-- since a moment standard output has gained as much as a text has, but for less than a piece of a stage
abbrev pub GainsNearly : {S : Type 0} → StageKind S → S → List ℕ → S → Type 0
GainsNearly kind start text now = (done : List ℕ) × (mark : Mark) × GainsText (standard_at kind start) (standard_to kind mark now) done × (length text < length done + 4_096)

-- standard output has gained the text of the rows
pub record StandardHolds {S : Type 0} (kind : StageKind S) (written : OutputText) (start : S) (rows : List Row) (outputs : List Output) (now : S) : Type 0 where
  pub output : Output
  pub one : outputs ≡ output ∷ []
  pub text : GainsText (standard_at kind start) (placed_at kind 0 output now) (written true rows)
  pub ended : kind.ended now output.name output.base output.mark

-- from one moment to another rows were written whole, and these are the outputs
abbrev pub HoldsAt : {S : Type 0} → Option Files → StageKind S → OutputText → S → List Row → List Output → S → Type 0
HoldsAt None kind text start rows outputs now = StandardHolds kind text start rows outputs now
HoldsAt (Some files) kind text start rows outputs now = FilesHold kind files text start rows outputs now

-- they were to be written: standard output has the front of their text, or some of their files were opened
abbrev pub StopsAt : {S : Type 0} → Option Files → StageKind S → OutputText → S → List Row → S → Type 0
StopsAt None kind text start rows now = GainsFront (standard_at kind start) now (text true rows)
StopsAt (Some files) kind text start rows now = FilesStop kind files start rows now

-- an output of rows is refused by this fault
abbrev pub IsRefusedAt : Option Files → List Row → Refused → Type 0
IsRefusedAt None rows fault = ⊥
IsRefusedAt (Some files) rows fault = IsRefusedBy files rows fault

-- what is left of the rows of a query was written whole
unfoldable pub Holds : {S : Type 0} → StageKind S → Asked → S → List Row → List Output → S → Type 0
Holds kind asked start rows outputs now = HoldsAt asked.files kind (asked_text asked) start (left_of asked rows) outputs now

-- it was to be written
unfoldable pub Stops : {S : Type 0} → StageKind S → Asked → S → List Row → S → Type 0
Stops kind asked start rows now = StopsAt asked.files kind (asked_text asked) start (left_of asked rows) now

-- an output of what is left is refused by this fault
unfoldable pub IsRefused : Asked → List Row → Refused → Type 0
IsRefused asked rows fault = IsRefusedAt asked.files (left_of asked rows) fault

-- an output may be refused before the last row is there: rows go on as they come, or it is that of a name without stars
abbrev pub IsRefusedEarly : Asked → Refused → Type 0
IsRefusedEarly asked why = IsPlain asked.order ⊎ IsRefused asked [] why
