-- What holds in each world that is reached.
use Rattle.std.specs.Prelude.{◌≡◌, ◌≢◌, ◌⊎◌, ℕ, List, [], ◌∷◌, ◌++◌, length, Some, slice_get}
use Rattle.lp_model.specs.Lines.{Line}
use Rattle.disk_model.specs.Disk.{Files}
use Rattle.ledger_model.specs.Entries.{Entry, Output}
use Rattle.recovery_model.specs.Recovered.{Recovers}
use Rattle.run_model.specs.Logs.{Written, Logs, IsThere}
use Rattle.lp_model.specs.Complete.{IsAmong, IsLine}
use Rattle.run_model.specs.Kept.{IsTakenOnce, IsLeft}
use Rattle.run_model.specs.Meanings.{Meaning, Mode, append, overwrite, ignore, Split, Given, asked_of}
use Rattle.run_model.specs.Right.{parts_of, text_at, IsSettled}
use Rattle.run_model.specs.Steps.{Setting}

-- a line is unread: it lies behind the kept place in a file that is there
pub record IsUnread (setting : Setting) (logs : Logs) (identity bytes : List ℕ) (line : Line) (entries : List Entry) : Type 0 where
  pub left : IsLeft identity line entries
  pub there : IsThere setting.rotation setting.parting logs identity bytes

-- each complete line of each log lies in exactly one span of one entry, or is unread
abbrev pub EachLineOnce : Setting → Logs → List Entry → Type 0
EachLineOnce setting logs entries = (identity bytes : List ℕ) (line : Line) → logs.written identity ≡ Some bytes → IsLine bytes line → IsTakenOnce identity line entries ⊎ IsUnread setting logs identity bytes line entries

-- a file with the text of an output: behind its bytes, or in their place
abbrev pub with_text : Mode → List ℕ → Split → List ℕ
with_text append bytes split = bytes ++ text_at (length bytes) split
with_text overwrite bytes split = split.fresh
with_text ignore bytes split = split.fresh

-- an entry has a file as an output, and puts the text of its query's meaning, over the records of its own spans, into it
pub record PutsText (meaning : Meaning) (written : Written) (name : List ℕ) (entry : Entry) (old new : List ℕ) : Type 0 where
  pub place : ℕ
  pub output : Output
  pub of_entry : slice_get entry.outputs place ≡ Some output
  pub output_is : output.name ≡ name
  pub given : Given
  pub gives : meaning.gives (asked_of entry) (parts_of (meaning.format entry.input) written entry.spans) entry.lists given
  pub split : Split
  pub among : IsAmong split given.splits
  pub name_is : split.name ≡ name
  pub puts : new ≡ with_text (meaning.mode entry.words) old split

-- or it has no output of that name
pub record LeavesFile (name : List ℕ) (entry : Entry) (old new : List ℕ) : Type 0 where
  pub none : (k : ℕ) (output : Output) → slice_get entry.outputs k ≡ Some output → output.name ≢ name
  pub leaves : new ≡ old

-- a file holds, entry after entry, the texts of those that have it as an output
abbrev pub HoldsTexts : Meaning → Written → List ℕ → List Entry → List ℕ → List ℕ → Type 0
HoldsTexts meaning written name [] old new = new ≡ old
HoldsTexts meaning written name (entry ∷ entries) old new = (next : List ℕ) × (PutsText meaning written name entry old next ⊎ LeavesFile name entry old next) × HoldsTexts meaning written name entries next new

-- an image recovers to a state that is settled, in which each line is taken once or unread
pub record StandsFor (meaning : Meaning) (setting : Setting) (logs : Logs) (image : Files) : Type 0 where
  pub entries : List Entry
  pub files : Files
  pub recovers : Recovers setting.ledger setting.stage entries files image
  pub settled : IsSettled meaning logs.written setting.start entries files
  pub lines : EachLineOnce setting logs entries
  pub texts : (name : List ℕ) → HoldsTexts meaning logs.written name entries (setting.start name) (files name)
