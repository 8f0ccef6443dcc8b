-- An entry that agrees with the logs, the entries before it and the files before it.
use Rattle.std.specs.Prelude.{◌≡◌, ◌≢◌, ℕ, ◌≤◌, Bool, true, List, [], ◌∷◌, ◌++◌, length, map, take, filter, sum, Some, IfSome, slice_get, ◌==◌, if◌then◌else◌}
use Rattle.std.specs.Bool.{⊤}
use Rattle.std.specs.List.{AllZip, AllByRecursion}
use Rattle.lp_model.specs.Outside.{bytes_in}
use Rattle.lp_model.specs.Reading.{Format, records_of, bad_lines_of, standing_at}
use Rattle.lp_model.specs.Following.{IsLineEnd}
use Rattle.disk_model.specs.Disk.{Files}
use Rattle.ledger_model.specs.Entries.{Entry, Span, Output}
use Rattle.ledger_model.specs.Standings.{standing_layout}
use Rattle.run_model.specs.Logs.{Written}
use Rattle.lp_model.specs.Complete.{IsAmong}
use Rattle.run_model.specs.Kept.{kept_place, HasSpan}
use Rattle.run_model.specs.Meanings.{Meaning, Mode, append, overwrite, ignore, Part, Split, Given, asked_of}

-- no two spans are of one log
abbrev pub AreApart : List Span → Type 0
AreApart [] = ⊤
AreApart (span ∷ spans) = (HasSpan span.identity spans → ⊥) × AreApart spans

-- a span goes on where the entries before it left the log, to an end of a line, and keeps how the log stands there
pub record GoesOn (format : Format) (written : Written) (before : List Entry) (span : Span) : Type 0 where
  pub bytes : List ℕ
  pub is : written span.identity ≡ Some bytes
  pub from_is : span.from ≡ kept_place span.identity before
  pub forward : span.from ≤ span.to
  pub ends : IsLineEnd bytes span.to
  pub standing_is : span.standing ≡ (standing_layout span.to).spell (standing_at format bytes true span.to)

-- what a span takes of its log, and its bad lines
abbrev pub span_part : Format → Written → Span → Part
span_part format written span =
    let bytes = bytes_in written span.identity in
    record { identity = span.identity; records = records_of format bytes true span.from span.to; columns = (standing_at format bytes true span.to).columns }

abbrev pub parts_of : Format → Written → List Span → List Part
parts_of format written spans = map (span_part format written) spans

abbrev pub bad_of : Format → Written → Span → ℕ
bad_of format written span = length (bad_lines_of format (bytes_in written span.identity) true span.from span.to)

abbrev pub bad_in : Format → Written → List Span → ℕ
bad_in format written spans = sum (map (bad_of format written) spans)

abbrev pub rows_in : List Part → ℕ
rows_in parts = sum (map (λ part. length part.records) parts)

-- whether an output takes part: a file that has something may be left alone
abbrev pub takes_part : Mode → Files → Split → Bool
takes_part append files split = true
takes_part overwrite files split = true
takes_part ignore files split = length (files split.name) == 0

-- where the text begins in the file
abbrev pub base_in : Mode → List ℕ → ℕ
base_in append file = length file
base_in overwrite file = 0
base_in ignore file = 0

abbrev pub text_at : ℕ → Split → List ℕ
text_at base split = if base == 0 then split.fresh else split.added

-- an output of an entry
pub record IsOutput (mode : Mode) (files : Files) (split : Split) (output : Output) : Type 0 where
  pub name_is : output.name ≡ split.name
  pub base_is : output.base ≡ base_in mode (files split.name)
  pub size_is : output.size ≡ length (text_at output.base split)

-- the outputs of an entry, of those that the query's meaning gives
abbrev pub AreOutputs : Mode → Files → List Split → List Output → Type 0
AreOutputs mode files splits outputs = AllZip (IsOutput mode files) (filter (takes_part mode files) splits) outputs

-- what an entry reads: its words and input text, and spans that go on
pub record Reads (meaning : Meaning) (written : Written) (before : List Entry) (entry : Entry) : Type 0 where
  pub words : meaning.are_words entry.words
  pub input_is : meaning.is_input (asked_of entry) entry.input
  pub same_input : AllByRecursion (λ other. other.input ≡ entry.input) before
  pub apart : AreApart entry.spans
  pub go_on : AllByRecursion (GoesOn (meaning.format entry.input) written before) entry.spans

-- what it writes: the meaning of its query over the records of its spans alone, with the lists that it keeps
pub record Writes (meaning : Meaning) (written : Written) (files : Files) (entry : Entry) (given : Given) : Type 0 where
  pub gives : meaning.gives (asked_of entry) (parts_of (meaning.format entry.input) written entry.spans) entry.lists given
  pub outputs : AreOutputs (meaning.mode entry.words) files given.splits entry.outputs
  pub output_is : entry.output ≡ given.rows

-- its counts of records and of bad lines
pub record Counts (meaning : Meaning) (written : Written) (entry : Entry) : Type 0 where
  pub processed_is : entry.processed ≡ rows_in (parts_of (meaning.format entry.input) written entry.spans)
  pub bad_least : bad_in (meaning.format entry.input) written entry.spans ≤ entry.bad
  pub bad_most : IfSome (meaning.most_bad entry.words) (λ most. entry.bad ≤ most)

pub record IsRight (meaning : Meaning) (written : Written) (before : List Entry) (files : Files) (entry : Entry) (given : Given) : Type 0 where
  pub reads : Reads meaning written before entry
  pub writes : Writes meaning written files entry given
  pub counts : Counts meaning written entry

-- the split of an output
abbrev pub IsSplitOf : List Split → Output → Split → Type 0
IsSplitOf splits output split = IsAmong split splits × (split.name ≡ output.name)

-- a file with an entry: an output keeps its bytes before the base, and its text stands behind them; all other files stay
pub record IsWith (outputs : List Output) (splits : List Split) (name old new : List ℕ) : Type 0 where
  pub listed : (k : ℕ) (output : Output) (split : Split) → slice_get outputs k ≡ Some output → output.name ≡ name → IsSplitOf splits output split → new ≡ take output.base old ++ text_at output.base split
  pub unlisted : ((k : ℕ) (output : Output) → slice_get outputs k ≡ Some output → output.name ≢ name) → new ≡ old

-- an entry that may come next, and the files with it
pub record IsNext (meaning : Meaning) (written : Written) (before : List Entry) (files : Files) (entry : Entry) (after : Files) : Type 0 where
  pub given : Given
  pub right : IsRight meaning written before files entry given
  pub files_are : (name : List ℕ) → IsWith entry.outputs given.splits name (files name) (after name)

-- entries come one after another, behind others, and lead from files to files
abbrev pub FollowFrom : Meaning → Written → List Entry → Files → List Entry → Files → Type 0
FollowFrom meaning written before files [] after = (name : List ℕ) → after name ≡ files name
FollowFrom meaning written before files (entry ∷ entries) after = (next : Files) × IsNext meaning written before files entry next × FollowFrom meaning written (before ++ entry ∷ []) next entries after

-- each entry is right for those before it, and the files are those at the start with all entries in order
abbrev pub IsSettled : Meaning → Written → Files → List Entry → Files → Type 0
IsSettled meaning written start entries files = FollowFrom meaning written [] start entries files
