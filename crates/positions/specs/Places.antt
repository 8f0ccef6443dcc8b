-- What entries keep: the last place of each log, and how it is read.
use Rattle.std.specs.Prelude.{◌≡◌, ℕ, List, [], ◌∷◌, bytes_eq, Option, Some, None, if◌then◌else◌}
use Rattle.std.specs.Bool.{⊤}
use Rattle.std.specs.BTreeMap.{is_at}
use Rattle.std.specs.Map.{lookup}
use Rattle.std.specs.Ordering.{nat_cmp}
use Rattle.std.specs.Cmp.Lexicographic.{slice_cmp}
use Rattle.ledger_model.specs.Entries.{Entry, Span}
use Rattle.ledger_model.specs.Standings.{standing_layout}
use Rattle.run_model.specs.Kept.{spans_of, is_of}
use Rattle.positions.specs.declared.place.Place.{Place}

-- the last of some spans that is of a log, or else the one that was before them
abbrev pub last_from : List ℕ → Option Span → List Span → Option Span
last_from identity before [] = before
last_from identity before (span ∷ spans) = last_from identity (if is_of identity span then Some span else before) spans

-- the last of some spans that is of a log
abbrev pub last_of : List ℕ → List Span → Option Span
last_of identity spans = last_from identity None spans

-- how the first entry says that logs are read
abbrev pub first_input : List Entry → Option (List ℕ)
first_input [] = None
first_input (entry ∷ entries) = Some entry.input

-- a place is the end of a span, with the standing that the span has there
pub record IsEndOf (span : Span) (place : Place) : Type 0 where
  pub to_is : place.to ≡ span.to
  pub fits : (standing_layout span.to).Fits place.standing
  pub standing_is : span.standing ≡ (standing_layout span.to).spell place.standing

abbrev pub IsPlaceOf : Option Span → Option Place → Type 0
IsPlaceOf None None = ⊤
IsPlaceOf None (Some place) = ⊥
IsPlaceOf (Some span) None = ⊥
IsPlaceOf (Some span) (Some place) = IsEndOf span place

-- places by the identities of logs, in their order; one may be set aside for a log that has none yet
abbrev pub Places : Type 0
Places = List (List ℕ × Option Place)

abbrev pub joined : Option (Option Place) → Option Place
joined None = None
joined (Some found) = found

-- the place of a log, if it has one
abbrev pub place_in : Places → List ℕ → Option Place
place_in places identity = joined (lookup (is_at (slice_cmp nat_cmp identity)) places)

-- the place of each log is the end of its last span
pub record Remembers (spans : List Span) (places : Places) : Type 0 where
  pub each : (identity : List ℕ) → IsPlaceOf (last_of identity spans) (place_in places identity)

-- what is kept: how logs are read, and the place of each log
pub record Kept : Type 0 where
  pub input : Option (List ℕ)
  pub places : Places

-- what these entries keep
pub record Keeps (entries : List Entry) (kept : Kept) : Type 0 where
  pub input : kept.input ≡ first_input entries
  pub places : Remembers (spans_of entries) kept.places

-- a place is put, in the stead of the one that the log had
abbrev pub Puts : List ℕ → Place → Places → Places → Type 0
Puts identity place old new = (other : List ℕ) → place_in new other ≡ (if bytes_eq identity other then Some place else place_in old other)

-- the text that is kept, or else this one
abbrev pub first_of : Option (List ℕ) → List ℕ → Option (List ℕ)
first_of None text = Some text
first_of (Some kept) text = Some kept

-- what two parts keep together
abbrev pub kept_of : Option (List ℕ) → Places → Kept
kept_of input places = record { input = input; places = places }

-- the end of a span, or 0
abbrev pub end_of : Option Span → ℕ
end_of None = 0
end_of (Some span) = span.to
