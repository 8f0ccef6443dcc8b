-- How far logs are read ahead of what standard output has of their rows.
use Rattle.std.specs.Prelude.{◌≡◌, ◌⊎◌, ◌+◌, ◌≤◌, ◌<◌, ℕ, Bool, true, length, List, ◌∷◌, ◌++◌, Option, None}
use Rattle.lp_model.specs.Outside.{Folder, Told}
use Rattle.lp_model.specs.Reading.{Format}
use Rattle.lp_values.specs.declared.value.Value.{Value}
use Rattle.log_reading.specs.Found.{Found, rows_met}
use Rattle.log_reading.specs.Spans.{AreKept, rows_up_to, spans_met, spans_size}
use Rattle.log_reading.specs.declared.span.Span.{Span}
use Rattle.lp_outside.specs.declared.stage.Mark.{Mark}
use Rattle.text_output.specs.Output.{StageKind, GainsText}
use Rattle.row_output.specs.Asked.{Asked, OutputText}
use Rattle.row_output.specs.Kept.{HasRows, asked_of}
use Rattle.row_output.specs.Orders.{IsPlain}
use Rattle.row_output.specs.Rows.{standard_at, standard_to}
use Rattle.row_output.specs.Sinks.{HoldsNoPiece}
use Rattle.row_output.specs.declared.kept.RowOutput.{RowOutput}
use Rattle.query_run.specs.Rows.{picked}

-- how much is read of a log at once
abbrev pub chunk : ℕ
chunk = 65_536

-- Spans were read at most so much ahead of a place in one of them: the rows of all lines up to there were put, and standard output held back less than a piece of their text.
pub record IsAhead {S : Type 0} (kind : StageKind S) (goes : S → S → Type 0) (asked : Asked) (picks : Found → Option (List Value)) (format : Format) (waits : Bool) (told : Option Folder) (spans : List Span) (given_before given_now : ℕ) (start now : S) : Type 0 where
  pub front : List Span
  pub span : Span
  pub rest : List Span
  pub stands : spans ≡ front ++ span ∷ rest
  pub place : ℕ
  pub begins : span.from ≤ place
  pub cut : place ≤ span.listed
  pub output : RowOutput
  pub reached : S
  pub has : Told told (λ folder. AreKept format waits spans folder → (asked_of output ≡ asked) × HasRows kind output start (picked picks (rows_met (spans_met format waits folder front ++ rows_up_to format folder span place))) reached)
  pub holds : HoldsNoPiece output.sink
  pub later : goes reached now
  pub given : given_now + span.from ≤ given_before + spans_size front + place + chunk
  pub below : given_now + span.from ≤ given_before + spans_size front + span.listed

-- or nothing was read
abbrev pub GoesAhead : {S : Type 0} → StageKind S → (S → S → Type 0) → Asked → (Found → Option (List Value)) → Format → Bool → Option Folder → List Span → ℕ → ℕ → S → S → Type 0
GoesAhead kind goes asked picks format waits told spans given_before given_now start now = (given_now ≡ given_before) ⊎ IsAhead kind goes asked picks format waits told spans given_before given_now start now

-- rows become text at once, and go to standard output as they come
abbrev pub AreAtOnce : Asked → Type 0
AreAtOnce asked = (asked.files ≡ None) × IsPlain asked.order × (asked.text.at_once ≡ true)

-- At a moment standard output had all but less than a piece of the text of the rows of all lines up to a place in one of the spans, and not more than a chunk behind that place was read.
pub record IsPassed {S : Type 0} (kind : StageKind S) (goes : S → S → Type 0) (text : OutputText) (picks : Found → Option (List Value)) (format : Format) (waits : Bool) (told : Option Folder) (spans : List Span) (given_before given_now : ℕ) (start now : S) : Type 0 where
  pub front : List Span
  pub span : Span
  pub rest : List Span
  pub stands : spans ≡ front ++ span ∷ rest
  pub place : ℕ
  pub begins : span.from ≤ place
  pub cut : place ≤ span.listed
  pub reached : S
  pub gained : Told told (λ folder. AreKept format waits spans folder → (done : List ℕ) × (mark : Mark) × GainsText (standard_at kind start) (standard_to kind mark reached) done
      × (length (text true (picked picks (rows_met (spans_met format waits folder front ++ rows_up_to format folder span place)))) < length done + 4_096))
  pub later : goes reached now
  pub given : given_now + span.from ≤ given_before + spans_size front + place + chunk
  pub below : given_now + span.from ≤ given_before + spans_size front + span.listed
