-- What a run reads of the logs behind FROM, and why it can't.
use Rattle.std.specs.Prelude.{◌≡◌, ◌≢◌, ◌⊎◌, ℕ, ◌+◌, ◌<◌, ◌≤◌, ◌^◌, ◌-◌, max, Bool, true, false, ◌||◌, List, [], ◌∷◌, ◌++◌, length, map, Option, Some, None, IsSome, ◌==◌}
use Rattle.std.specs.Bool.{⊤}
use Rattle.std.specs.List.{AllZip, AllByRecursion, list_any}
use Rattle.lp_model.specs.Outside.{Folder, Told}
use Rattle.lp_outside.specs.declared.name.NameFault.{NameFault}
use Rattle.lp_outside.specs.declared.name.NameFault.TheVariants.{Stars}
use Rattle.lp_outside.specs.NameFault.{name_fault}
use Rattle.command_words.specs.declared.modes.Rotation.{Rotation as Word}
use Rattle.command_words.specs.declared.modes.Rotation.TheVariants as Words
use Rattle.ledger_model.specs.Entries.{Entry}
use Rattle.run_model.specs.Logs.{Rotation, names, numbers, generation_name}
use Rattle.run_model.specs.Kept.{Knows}
use Rattle.run_model.specs.Listed.{Listed, rotated_files, live_files, IsGreatest, IsThereAt, IsFirst, IsNewest}
use Rattle.run_model.specs.Listed.{Lists as ListsFiles}
use Rattle.log_listing.specs.Firsts.{firsts, with_names, is_among}
use Rattle.log_listing.specs.Listed.{most_logs, Gives, IsMissing, Lists}
use Rattle.log_reading.specs.declared.span.Span.{Span}
use Rattle.positions.specs.declared.spans.SpanFault.{SpanFault}
use Rattle.positions.specs.declared.spans.SpanFault.TheVariants as F
use Rattle.positions.specs.Places.{Places, Kept, Keeps}
use Rattle.positions.specs.Spans.{IsSpanOf, StopsFile, Agrees, IsChanged}

-- the rule that a word asks for
abbrev pub rule_of : Word → Rotation
rule_of Words.Names = names
rule_of Words.Numbers = numbers

-- a text has `*` or `?`
abbrev pub has_stars : List ℕ → Bool
has_stars text = list_any (λ byte. (byte == 42) || (byte == 63)) text

-- a text is a stem: a name of one file
pub record IsStem (text : List ℕ) : Type 0 where
  pub is_name : name_fault text ≡ None
  pub one : has_stars text ≡ false

-- the logs that texts reach, each at its first place; under numbers the stems
abbrev pub Reaches : Rotation → Option Folder → List (List ℕ) → List (List ℕ) → Type 0
Reaches names told texts reached = Lists told texts reached
Reaches numbers told texts reached = AllByRecursion IsStem texts × (reached ≡ firsts texts)

-- what entries know of stems are generations: numbers from 1 on, of 64 bits
abbrev pub KnowsNumbers : Rotation → List Entry → Type 0
KnowsNumbers names entries = ⊤
KnowsNumbers numbers entries = (stem : List ℕ) (number : ℕ) → Knows entries stem number → (1 ≤ number) × (number < 2 ^ 64)

-- kept places are those of these entries
pub record AreOf (rotation : Rotation) (entries : List Entry) (kept : Kept) : Type 0 where
  pub keeps : Keeps entries kept
  pub numbered : KnowsNumbers rotation entries

-- a file that is its own log
abbrev pub plain_file : List ℕ → Listed
plain_file name = record { name = name; identity = name }

-- the spans of the logs that texts reach: of each file that the rule lists, in order
pub record AreSpansOf (rotation : Rotation) (places : Places) (entries : List Entry) (texts : List (List ℕ)) (before now : Option Folder) (spans : List Span) : Type 0 where
  pub reached : List (List ℕ)
  pub reaches : Reaches rotation before texts reached
  pub files : List Listed
  pub lists : Told before (λ folder. ListsFiles rotation folder entries reached files)
  pub each : AllZip (IsSpanOf places before now) files spans
  pub few : length spans ≤ most_logs

-- Under names: of the files that a text matches those before this one have spans, as have all logs before them. It is a new log, and it has none.
pub record StopsMatch (places : Places) (before now : Option Folder) (reached : List (List ℕ)) (text : List ℕ) (fault : SpanFault) : Type 0 where
  pub found : List (List ℕ)
  pub gives : Gives before text found
  pub front : List (List ℕ)
  pub name : List ℕ
  pub back : List (List ℕ)
  pub split : found ≡ front ++ name ∷ back
  pub new : is_among (with_names reached front) name ≡ false
  pub spans : List Span
  pub fine : AllZip (IsSpanOf places before now) (map plain_file (with_names reached front)) spans
  pub stops : StopsFile places now (length spans) (plain_file name) fault

-- why a name stops the list; logs that don't tell their files may lose one
abbrev pub StopsName : Places → Option Folder → Option Folder → List (List ℕ) → List ℕ → SpanFault → Type 0
StopsName places before now reached text (F.NoSuchLog name) = IsMissing before text name ⊎ (before ≡ None)
StopsName places before now reached text (F.LostLog stem number) = ⊥
StopsName places before now reached text (F.Shrunk name kept found) = StopsMatch places before now reached text (F.Shrunk name kept found)
StopsName places before now reached text (F.InputChanged kept given) = ⊥
StopsName places before now reached text F.TooManyLogs = StopsMatch places before now reached text F.TooManyLogs
StopsName places before now reached text F.LogsFault = ⊤
StopsName places before now reached text (F.BadName fault) = name_fault text ≡ Some fault
StopsName places before now reached text F.Memory = ⊤

-- the files that are wanted of a stem: the rotated ones from the first to the newest, and the stem's own where it is there
pub record Wants (folder : Folder) (entries : List Entry) (stem : List ℕ) (files : List Listed) : Type 0 where
  pub first : ℕ
  pub is_first : IsFirst folder entries stem first
  pub newest : ℕ
  pub is_newest : IsNewest folder stem newest
  pub files_are : files ≡ rotated_files stem first (newest + 1 - first) ++ live_files (folder stem) stem (max (newest + 1) first)

-- the rotated file of a number is wanted, and isn't there
pub record IsGone (before : Option Folder) (stem : List ℕ) (number : ℕ) (file : Listed) : Type 0 where
  pub name_is : file.name ≡ generation_name stem number
  pub gone : Told before (λ folder. IsThereAt folder stem number → ⊥)

-- a wanted file is there
abbrev pub IsHere : Option Folder → Listed → Type 0
IsHere before file = Told before (λ folder. IsSome (folder file.name))

-- and its identity is a name
abbrev pub IsNamedHere : Option Folder → Listed → Type 0
IsNamedHere before file = IsHere before file × (name_fault file.identity ≡ None)

-- why a wanted file has no span: the first of these that holds, gone, no name, too many, too short
abbrev pub StopsWanted : Places → Option Folder → Option Folder → ℕ → List ℕ → Listed → SpanFault → Type 0
StopsWanted places before now count stem file (F.NoSuchLog name) = ⊥
StopsWanted places before now count stem file (F.LostLog other number) = (other ≡ stem) × IsGone before stem number file
StopsWanted places before now count stem file (F.Shrunk name kept found) = IsNamedHere before file × StopsFile places now count file (F.Shrunk name kept found)
StopsWanted places before now count stem file (F.InputChanged kept given) = ⊥
StopsWanted places before now count stem file F.TooManyLogs = IsNamedHere before file × StopsFile places now count file F.TooManyLogs
StopsWanted places before now count stem file F.LogsFault = ⊥
StopsWanted places before now count stem file (F.BadName fault) = IsHere before file × (name_fault file.identity ≡ Some fault)
StopsWanted places before now count stem file F.Memory = ⊥

-- files are there
abbrev pub AreHere : Folder → List Listed → Type 0
AreHere folder files = AllByRecursion (λ file. IsSome (folder file.name)) files

-- Under numbers: of the files that are wanted of a new stem those before this one are there and have spans, as have so many logs before them. It has none.
pub record StopsGeneration (places : Places) (entries : List Entry) (before now : Option Folder) (reached : List (List ℕ)) (count : ℕ) (stem : List ℕ) (fault : SpanFault) : Type 0 where
  pub new : is_among reached stem ≡ false
  pub files : List Listed
  pub wants : Told before (λ folder. Wants folder entries stem files)
  pub front : List Listed
  pub file : Listed
  pub back : List Listed
  pub split : files ≡ front ++ file ∷ back
  pub there : Told before (λ folder. AreHere folder front)
  pub spans : List Span
  pub fine : AllZip (IsSpanOf places before now) front spans
  pub stops : StopsWanted places before now (count + length front) stem file fault

-- the entries don't know the stem, and no file of it is there
pub record HasNone (entries : List Entry) (stem : List ℕ) (folder : Folder) : Type 0 where
  pub unknown : (number : ℕ) → Knows entries stem number → ⊥
  pub none : (number : ℕ) → IsThereAt folder stem number → ⊥
  pub gone : folder stem ≡ None

-- the entries know this generation as the greatest, what is there is older, and the stem isn't there
pub record IsBehind (entries : List Entry) (stem : List ℕ) (number : ℕ) (folder : Folder) : Type 0 where
  pub greatest : IsGreatest entries stem number
  pub older : (other : ℕ) → IsThereAt folder stem other → other < number
  pub gone : folder stem ≡ None

-- with a dot and one byte more, which is no slash, the stem is no name, so no generation of it has one
pub record HasNoRoom (stem : List ℕ) (fault : NameFault) : Type 0 where
  pub byte : ℕ
  pub no_slash : byte ≢ 47
  pub is : name_fault (stem ++ 46 ∷ byte ∷ []) ≡ Some fault

-- with a dot and a star behind it the stem is a name, by which its rotated files are listed
abbrev pub IsListable : List ℕ → Type 0
IsListable stem = name_fault (stem ++ 46 ∷ 42 ∷ []) ≡ None

-- why a name is bad as one of a stem: the first of these that holds
abbrev pub IsBadStem : List ℕ → NameFault → Type 0
IsBadStem text fault = (name_fault text ≡ Some fault) ⊎ (((name_fault text ≡ None) × (has_stars text ≡ true) × (fault ≡ Stars)) ⊎ (IsStem text × HasNoRoom text fault))

-- why a stem stops the list
abbrev pub StopsStem : Places → List Entry → Option Folder → Option Folder → List (List ℕ) → ℕ → List ℕ → SpanFault → Type 0
StopsStem places entries before now reached count text (F.NoSuchLog name) = ((name ≡ text) × IsListable text × Told before (HasNone entries text)) ⊎ (before ≡ None)
StopsStem places entries before now reached count text (F.LostLog stem number) = ((stem ≡ text) × IsListable text × Told before (IsBehind entries text number)) ⊎ StopsGeneration places entries before now reached count text (F.LostLog stem number)
StopsStem places entries before now reached count text (F.Shrunk name kept found) = StopsGeneration places entries before now reached count text (F.Shrunk name kept found)
StopsStem places entries before now reached count text (F.InputChanged kept given) = ⊥
StopsStem places entries before now reached count text F.TooManyLogs = StopsGeneration places entries before now reached count text F.TooManyLogs
StopsStem places entries before now reached count text F.LogsFault = ⊤
StopsStem places entries before now reached count text (F.BadName fault) = IsBadStem text fault ⊎ StopsGeneration places entries before now reached count text (F.BadName fault)
StopsStem places entries before now reached count text F.Memory = ⊤

-- why a text stops the list behind the logs of those before it
abbrev pub StopsText : Rotation → Places → List Entry → Option Folder → Option Folder → List (List ℕ) → ℕ → List ℕ → SpanFault → Type 0
StopsText names places entries before now reached count text fault = StopsName places before now reached text fault
StopsText numbers places entries before now reached count text fault = StopsStem places entries before now reached count text fault

-- the first text that stops the list: those before it have their spans
pub record Stops (rotation : Rotation) (places : Places) (entries : List Entry) (texts : List (List ℕ)) (before now : Option Folder) (fault : SpanFault) : Type 0 where
  pub front : List (List ℕ)
  pub text : List ℕ
  pub back : List (List ℕ)
  pub split : texts ≡ front ++ text ∷ back
  pub spans : List Span
  pub fine : AreSpansOf rotation places entries front before now spans
  pub stops : StopsText rotation places entries before now fine.reached (length spans) text fault

-- why the logs behind FROM have no spans, where they are read as the first run read them
abbrev pub IsStopped : Rotation → Places → List Entry → List (List ℕ) → Option Folder → Option Folder → SpanFault → Type 0
IsStopped rotation places entries texts before now (F.NoSuchLog name) = Stops rotation places entries texts before now (F.NoSuchLog name)
IsStopped rotation places entries texts before now (F.LostLog stem number) = Stops rotation places entries texts before now (F.LostLog stem number)
IsStopped rotation places entries texts before now (F.Shrunk name kept found) = Stops rotation places entries texts before now (F.Shrunk name kept found)
IsStopped rotation places entries texts before now (F.InputChanged kept given) = ⊤
IsStopped rotation places entries texts before now F.TooManyLogs = Stops rotation places entries texts before now F.TooManyLogs
IsStopped rotation places entries texts before now F.LogsFault = ⊤
IsStopped rotation places entries texts before now (F.BadName fault) = Stops rotation places entries texts before now (F.BadName fault)
IsStopped rotation places entries texts before now F.Memory = ⊤

-- the texts are told apart first: a change of them is told where they differ, and what else is told but want of memory where they agree
abbrev pub IsJudged : Option (List ℕ) → List ℕ → SpanFault → Type 0
IsJudged first input (F.NoSuchLog name) = Agrees first input
IsJudged first input (F.LostLog stem number) = Agrees first input
IsJudged first input (F.Shrunk name kept found) = Agrees first input
IsJudged first input (F.InputChanged kept given) = IsChanged first input (F.InputChanged kept given)
IsJudged first input F.TooManyLogs = Agrees first input
IsJudged first input F.LogsFault = Agrees first input
IsJudged first input (F.BadName fault) = Agrees first input
IsJudged first input F.Memory = ⊤
