-- What a run reads of its logs.
use Rattle.std.specs.Prelude.{◌≡◌, ℕ, ◌<◌, ◌≤◌, List, ◌++◌, Option, Some, None}
use Rattle.std.specs.Bool.{⊤}
use Rattle.std.specs.List.{AllZip}
use Rattle.std.proofs.Math.Nat.{le_refl}
use Rattle.lp_model.specs.Outside.{Folder, Told}
use Rattle.run_model.specs.Listed.{Listed}
use Rattle.log_listing.specs.Lengths.{IsLength, IsLengthNow}
use Rattle.log_listing.specs.Listed.{most_logs}
use Rattle.log_reading.specs.declared.span.Span.{Span}
use Rattle.positions.specs.declared.place.Place.{Place}
use Rattle.positions.specs.declared.spans.SpanFault.{SpanFault}
use Rattle.positions.specs.declared.spans.SpanFault.TheVariants as F
use Rattle.positions.specs.Places.{Places, place_in}

-- where a log is read from: its place, or its start
abbrev pub start_of : Option Place → Place
start_of None = record { to = 0; standing = record { lines = 0; columns = None }; low = le_refl 0 }
start_of (Some place) = place

-- a span of a file: from its log's place, with the standing there, up to the file's length at some moment
pub record IsSpanOf (places : Places) (before now : Option Folder) (file : Listed) (span : Span) : Type 0 where
  pub name_is : span.name ≡ file.name
  pub identity_is : span.identity ≡ file.identity
  pub from_is : span.from ≡ (start_of (place_in places file.identity)).to
  pub standing_is : span.standing ≡ (start_of (place_in places file.identity)).standing
  pub listed : IsLength before now (record { name = file.name; length = span.listed })
  pub forward : span.from ≤ span.listed

-- a file is shorter than what was read of it
pub record IsShrunk (places : Places) (now : Option Folder) (file : Listed) (kept found : ℕ) : Type 0 where
  pub kept_is : kept ≡ (start_of (place_in places file.identity)).to
  pub found_is : IsLengthNow now file.name found
  pub shorter : found < kept

-- why a file has no span
abbrev pub IsRefusedFile : Places → Option Folder → Listed → SpanFault → Type 0
IsRefusedFile places now file (F.NoSuchLog name) = (name ≡ file.name) × Told now (λ files. files file.name ≡ None)
IsRefusedFile places now file (F.LostLog stem number) = ⊥
IsRefusedFile places now file (F.Shrunk name kept found) = (name ≡ file.name) × IsShrunk places now file kept found
IsRefusedFile places now file (F.InputChanged kept given) = ⊥
IsRefusedFile places now file F.TooManyLogs = ⊥
IsRefusedFile places now file F.LogsFault = ⊤
IsRefusedFile places now file (F.BadName fault) = ⊥
IsRefusedFile places now file F.Memory = ⊤

-- spans of some files, behind others
pub record AddsSpans (places : Places) (before now : Option Folder) (files : List Listed) (old new : List Span) : Type 0 where
  pub more : List Span
  pub added : new ≡ old ++ more
  pub each : AllZip (IsSpanOf places before now) files more

-- logs are read as the first run read them
abbrev pub Agrees : Option (List ℕ) → List ℕ → Type 0
Agrees None given = ⊤
Agrees (Some kept) given = kept ≡ given

-- or otherwise
abbrev pub IsChanged : Option (List ℕ) → List ℕ → SpanFault → Type 0
IsChanged first input (F.NoSuchLog name) = ⊥
IsChanged first input (F.LostLog stem number) = ⊥
IsChanged first input (F.Shrunk name kept found) = ⊥
IsChanged first input (F.InputChanged kept given) = (first ≡ Some kept) × (given ≡ input) × (kept ≡ given → ⊥)
IsChanged first input F.TooManyLogs = ⊥
IsChanged first input F.LogsFault = ⊥
IsChanged first input (F.BadName fault) = ⊥
IsChanged first input F.Memory = ⊤

-- which file has none, behind so many logs: the 100,001st is refused before it is looked at
abbrev pub StopsFile : Places → Option Folder → ℕ → Listed → SpanFault → Type 0
StopsFile places now count file (F.NoSuchLog name) = (count < most_logs) × IsRefusedFile places now file (F.NoSuchLog name)
StopsFile places now count file (F.LostLog stem number) = ⊥
StopsFile places now count file (F.Shrunk name kept found) = (count < most_logs) × IsRefusedFile places now file (F.Shrunk name kept found)
StopsFile places now count file (F.InputChanged kept given) = ⊥
StopsFile places now count file F.TooManyLogs = most_logs ≤ count
StopsFile places now count file F.LogsFault = ⊤
StopsFile places now count file (F.BadName fault) = ⊥
StopsFile places now count file F.Memory = ⊤
