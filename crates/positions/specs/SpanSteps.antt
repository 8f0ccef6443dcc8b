-- Steps towards the spans of a run.
use Rattle.std.specs.Prelude.{◌≡◌, ◌⊎◌, ℕ, ◌-◌, ◌<◌, ◌≤◌, ◌^◌, Bool, true, false, List, [], ◌∷◌, ◌++◌, length, map, Contains, Option, Some, None, IsSome}
use Rattle.std.specs.Bool.{⊤}
use Rattle.std.specs.List.{AllZip, AllByRecursion}
use Rattle.std.specs.BTreeSet.{BTreeSet, contains}
use Rattle.std.specs.Ordering.{nat_cmp}
use Rattle.lp_model.specs.Outside.{Folder, OnlyGrow, Told}
use Rattle.lp_outside.specs.NameFault.{name_fault}
use Rattle.ledger_model.specs.Entries.{Entry}
use Rattle.run_model.specs.Logs.{numbers, generation_name}
use Rattle.run_model.specs.Kept.{spans_of}
use Rattle.run_model.specs.Listed.{Listed, rotated_files, ListsStem, joined}
use Rattle.generations.specs.There.{AreThere}
use Rattle.generations.specs.Files.{IsKnownAs, IsLiveAs}
use Rattle.log_listing.specs.Firsts.{firsts, with_names, is_among, Knows}
use Rattle.log_listing.specs.Listed.{most_logs, Lists}
use Rattle.log_reading.specs.declared.span.Span.{Span}
use Rattle.positions.specs.declared.spans.SpanFault.{SpanFault}
use Rattle.positions.specs.declared.spans.SpanFault.TheVariants as F
use Rattle.generations.specs.Numbers.{IsIdentityOf}
use Rattle.positions.specs.declared.place.Place.{Place}
use Rattle.positions.specs.Places.{Places, place_in, Remembers}
use Rattle.positions.specs.Spans.{IsSpanOf, AddsSpans, StopsFile}
use Rattle.positions.specs.Spanning.{plain_file, IsStem, KnowsNumbers, StopsName, StopsStem}

abbrev pub identities_of : List Span → List (List ℕ)
identities_of spans = map (λ span. span.identity) spans

-- a span of a file is added
pub record AddsSpan (places : Places) (before now : Option Folder) (file : Listed) (old new : List Span) : Type 0 where
  pub span : Span
  pub added : new ≡ old ++ span ∷ []
  pub is : IsSpanOf places before now file span

-- each span is of a file that is its own log
abbrev pub ArePlain : Places → Option Folder → Option Folder → List Span → Type 0
ArePlain places before now spans = AllByRecursion (λ span. IsSpanOf places before now (plain_file span.identity) span) spans

-- and so they are with those that are added
abbrev pub AddsPlain : Places → Option Folder → Option Folder → List Span → List Span → Type 0
AddsPlain places before now old new = (start : Option Folder) → OnlyGrow start before → ArePlain places start before old → ArePlain places start now new

-- the first of some files whose log is new and has no span
pub record StopsAmong (places : Places) (before now : Option Folder) (old : List Span) (found : List (List ℕ)) (fault : SpanFault) : Type 0 where
  pub front : List (List ℕ)
  pub name : List ℕ
  pub back : List (List ℕ)
  pub split : found ≡ front ++ name ∷ back
  pub spans : List Span
  pub all : identities_of spans ≡ with_names (identities_of old) front
  pub plain : AddsPlain places before now old spans
  pub new : is_among (identities_of spans) name ≡ false
  pub stops : StopsFile places now (length spans) (plain_file name) fault

-- the first name that stops the list
pub record StopsNames (places : Places) (before now : Option Folder) (texts : List (List ℕ)) (fault : SpanFault) : Type 0 where
  pub front : List (List ℕ)
  pub text : List ℕ
  pub back : List (List ℕ)
  pub split : texts ≡ front ++ text ∷ back
  pub spans : List Span
  pub lists : Lists before front (identities_of spans)
  pub plain : ArePlain places before now spans
  pub few : length spans ≤ most_logs
  pub stops : StopsName places before now (identities_of spans) text fault

-- places keep a generation of a stem
pub record IsKept (places : Places) (stem : List ℕ) (number : ℕ) : Type 0 where
  pub some : 1 ≤ number
  pub small : number < 2 ^ 64
  pub is : IsSome (place_in places (generation_name stem number))

-- the greatest one, or none
abbrev pub IsKnownIn : Places → List ℕ → Option ℕ → Type 0
IsKnownIn places stem None = (number : ℕ) → IsKept places stem number → ⊥
IsKnownIn places stem (Some number) = IsKept places stem number × ((other : ℕ) → IsKept places stem other → other ≤ number)

-- some places are kept of a generation; the stem is given with the dot behind it
pub record IsKeptAmong (front : List ℕ) (entries : Places) (number : ℕ) : Type 0 where
  pub identity : List ℕ
  pub place : Option Place
  pub among : Contains entries (identity, place)
  pub is : IsIdentityOf front identity number
  pub kept : IsSome place

abbrev pub IsKnownAmong : List ℕ → Places → Option ℕ → Type 0
IsKnownAmong front entries None = (number : ℕ) → IsKeptAmong front entries number → ⊥
IsKnownAmong front entries (Some number) = IsKeptAmong front entries number × ((other : ℕ) → IsKeptAmong front entries other → other ≤ number)

-- the greater of a number and that of a place more
abbrev pub KnowsMore : List ℕ → List ℕ → Option Place → Option ℕ → Option ℕ → Type 0
KnowsMore front identity place known more = (entries : Places) → IsKnownAmong front entries known → IsKnownAmong front (entries ++ (identity, place) ∷ []) more

-- places are those of entries that know generations
pub record Tells (entries : List Entry) (places : Places) : Type 0 where
  pub remembers : Remembers (spans_of entries) places
  pub numbered : KnowsNumbers numbers entries

-- the file of a generation
abbrev pub file_of : List ℕ → ℕ → Listed
file_of stem number = record { name = generation_name stem number; identity = generation_name stem number }

abbrev pub live_file : List ℕ → ℕ → Listed
live_file stem number = record { name = stem; identity = generation_name stem number }

-- a file's identity is no name, or it has no span
abbrev pub StopsListed : Places → Option Folder → ℕ → Listed → SpanFault → Type 0
StopsListed places now count file (F.NoSuchLog name) = StopsFile places now count file (F.NoSuchLog name)
StopsListed places now count file (F.LostLog stem number) = ⊥
StopsListed places now count file (F.Shrunk name kept found) = (name_fault file.identity ≡ None) × StopsFile places now count file (F.Shrunk name kept found)
StopsListed places now count file (F.InputChanged kept given) = ⊥
StopsListed places now count file F.TooManyLogs = (name_fault file.identity ≡ None) × StopsFile places now count file F.TooManyLogs
StopsListed places now count file F.LogsFault = ⊤
StopsListed places now count file (F.BadName fault) = name_fault file.identity ≡ Some fault
StopsListed places now count file F.Memory = ⊤

-- a number isn't there, or its file has no span
abbrev pub StopsNumber : Places → Option Folder → ℕ → List ℕ → BTreeSet ℕ → ℕ → SpanFault → Type 0
StopsNumber places now count stem there number fault = ((fault ≡ F.LostLog stem number) × (contains nat_cmp there number ≡ false)) ⊎ ((contains nat_cmp there number ≡ true) × StopsListed places now count (file_of stem number) fault)

-- the first number of a range whose file has none
pub record StopsRotated (places : Places) (before now : Option Folder) (old : List Span) (stem : List ℕ) (there : BTreeSet ℕ) (first last : ℕ) (fault : SpanFault) : Type 0 where
  pub number : ℕ
  pub low : first ≤ number
  pub high : number ≤ last
  pub before_it : (other : ℕ) → first ≤ other → other < number → contains nat_cmp there other ≡ true
  pub spans : List Span
  pub adds : AddsSpans places before now (rotated_files stem first (number - first)) old spans
  pub stops : StopsNumber places now (length spans) stem there number fault

-- a stem's files are added
pub record AddsStem (places : Places) (before now : Option Folder) (stem : List ℕ) (old new : List Span) : Type 0 where
  pub files : List Listed
  pub lists : (start : Option Folder) (entries : List Entry) → OnlyGrow start before → Tells entries places → Told start (λ folder. ListsStem folder entries stem files)
  pub adds : AddsSpans places before now files old new

-- the same, where it is known which files are there and which generation the entries know
pub record AddsFiles (places : Places) (before now : Option Folder) (stem : List ℕ) (there : BTreeSet ℕ) (live : Bool) (known : Option ℕ) (old new : List Span) : Type 0 where
  pub files : List Listed
  pub lists : (folder : Folder) (entries : List Entry) → AreThere folder stem there → IsLiveAs folder stem live → IsKnownAs entries stem known → ListsStem folder entries stem files
  pub adds : AddsSpans places before now files old new

-- what is asked of the folder at the start
abbrev pub StopsStemOf : Places → Option Folder → Option Folder → ℕ → List ℕ → SpanFault → Type 0
StopsStemOf places before now count stem fault = (start : Option Folder) (entries : List Entry) (reached : List (List ℕ)) → OnlyGrow start before → Tells entries places → is_among reached stem ≡ false → StopsStem places entries start now reached count stem fault

-- the spans of stems
pub record AreStemSpans (places : Places) (entries : List Entry) (texts : List (List ℕ)) (before now : Option Folder) (spans : List Span) : Type 0 where
  pub stems : AllByRecursion IsStem texts
  pub files : List (List Listed)
  pub lists : Told before (λ folder. AllZip (ListsStem folder entries) (firsts texts) files)
  pub each : AllZip (IsSpanOf places before now) (joined files) spans

-- so they are with those of one text more
abbrev pub AddsText : Places → Option Folder → Option Folder → List ℕ → BTreeSet (List ℕ) → List Span → List Span → Type 0
AddsText places before now text seen old new = (start : Option Folder) (entries : List Entry) (texts : List (List ℕ)) → OnlyGrow start before → Tells entries places → Knows seen (firsts texts)
    → AreStemSpans places entries texts start before old → AreStemSpans places entries (texts ++ text ∷ []) start now new

-- the first text that stops the list
pub record StopsStems (places : Places) (before now : Option Folder) (texts : List (List ℕ)) (fault : SpanFault) : Type 0 where
  pub front : List (List ℕ)
  pub text : List ℕ
  pub back : List (List ℕ)
  pub split : texts ≡ front ++ text ∷ back
  pub spans : List Span
  pub few : length spans ≤ most_logs
  pub fine : (entries : List Entry) → Tells entries places → AreStemSpans places entries front before now spans
  pub stops : (entries : List Entry) → Tells entries places → StopsStem places entries before now (firsts front) (length spans) text fault

-- a fault of logs, of names or of memory
abbrev pub IsOther : SpanFault → Type 0
IsOther (F.NoSuchLog name) = ⊤
IsOther (F.LostLog stem number) = ⊤
IsOther (F.Shrunk name kept found) = ⊤
IsOther (F.InputChanged kept given) = ⊥
IsOther F.TooManyLogs = ⊤
IsOther F.LogsFault = ⊤
IsOther (F.BadName fault) = ⊤
IsOther F.Memory = ⊤
