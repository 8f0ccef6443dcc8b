-- An output of a stage from one moment to another: what it has gained, and how far the text of rows has come.
use Rattle.std.specs.Prelude.{◌≡◌, ℕ, ◌<◌, ◌^◌, List, ◌++◌}
use Rattle.lp_outside.specs.declared.stage.Mark.{Mark}
use Rattle.lp_outside.specs.Stages.{StageState}
use Rattle.lp_outside.specs.Gained.{Gained, GainedSome, SparesOthers, SparesFronts, SparesLengths, SparesEnded}
use Rattle.text_output.specs.declared.target.Target.{Target}
use Rattle.text_output.specs.declared.target.Output.{Output}

-- what a kind of stage holds, and which outputs it has ended
pub record StageKind (S : Type 0) : Type 1 where
  pub state : S → StageState
  pub ended : S → List ℕ → ℕ → Mark → Type 0

abbrev pub kind_of : {S : Type 0} → (S → StageState) → (S → List ℕ → ℕ → Mark → Type 0) → StageKind S
kind_of state ended = record { state = state; ended = ended }

-- an output at one moment: how far its text has come, and its stage
pub record OutputAt {S : Type 0} (kind : StageKind S) : Type 0 where
  pub output : ℕ
  pub name : List ℕ
  pub base : ℕ
  pub mark : Mark
  pub stage : S

abbrev pub output_at : {S : Type 0} → (kind : StageKind S) → Target → Mark → S → OutputAt kind
output_at kind target mark stage = record { output = target.output; name = target.name; base = target.base; mark = mark; stage = stage }

abbrev pub reached : {S : Type 0} → (kind : StageKind S) → Target → S → OutputAt kind
reached kind target stage = output_at kind target target.mark stage

-- an output of an index whose text is whole
abbrev pub placed_at : {S : Type 0} → (kind : StageKind S) → ℕ → Output → S → OutputAt kind
placed_at kind index output stage = record { output = index; name = output.name; base = output.base; mark = output.mark; stage = stage }

-- From one moment to another an output has gained a text, and all else that the stage holds stays. A mark has a length below
-- 2^64.
pub record GainsText {S : Type 0} {kind : StageKind S} (before now : OutputAt kind) (text : List ℕ) : Type 0 where
  pub output : now.output ≡ before.output
  pub name : now.name ≡ before.name
  pub base : now.base ≡ before.base
  pub tells : (kind.state before.stage).tells → (kind.state now.stage).tells
  pub gained : before.mark.length < 2 ^ 64 → Gained before.output before.name before.base before.mark now.mark text (kind.state before.stage) (kind.state now.stage)
  pub others : SparesOthers before.output before.name (kind.state before.stage) (kind.state now.stage)
  pub lengths : SparesLengths before.name (kind.state before.stage) (kind.state now.stage)
  pub ended : SparesEnded kind.ended before.name before.stage now.stage

-- Over some calls for one output all other outputs stay, and so do texts that end where its own begins, whatever comes of it.
pub record Spares {S : Type 0} (kind : StageKind S) (output : ℕ) (name : List ℕ) (base : ℕ) (before now : S) : Type 0 where
  pub others : SparesOthers output name (kind.state before) (kind.state now)
  pub fronts : SparesFronts base (kind.state before) (kind.state now)
  pub lengths : SparesLengths name (kind.state before) (kind.state now)
  pub ended : SparesEnded kind.ended name before now

-- it was to gain a text: a stream has gained the front of it
abbrev pub GainsFront : {S : Type 0} → {kind : StageKind S} → OutputAt kind → S → List ℕ → Type 0
GainsFront {kind = kind} before now text = before.mark.length < 2 ^ 64 → GainedSome before.name text (kind.state before.stage) (kind.state now)

-- bytes went from the front of a buffer to the output
abbrev pub MovesText : {S : Type 0} → {kind : StageKind S} → OutputAt kind → OutputAt kind → List ℕ → List ℕ → Type 0
MovesText before now old new = (moved : List ℕ) × GainsText before now moved × (old ≡ moved ++ new)

-- since the start the output has gained the front of a text, and the buffer holds the rest
abbrev pub IsUnderWay : {S : Type 0} → {kind : StageKind S} → (List ℕ → Type 0) → OutputAt kind → OutputAt kind → List ℕ → Type 0
IsUnderWay HasText start now buffer = (done : List ℕ) × GainsText start now done × HasText (done ++ buffer)
