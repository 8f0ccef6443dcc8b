-- What becomes of the rows of a query: what standard output has gained, and what files hold.
use Rattle.std.specs.Prelude.{◌≡◌, ℕ, Bool, true, false, List, Option, Some, None, option_map}
use Rattle.disk_model.specs.Disk.{Files as Contents}
use Rattle.lp_model.specs.Outside.{Folder, Gains, GainsSome}
use Rattle.multiplex.specs.Splitting.{output_names}
use Rattle.order_top.specs.Finish.{Row}
use Rattle.row_output.specs.Asked.{Asked, AreGood, Files, OutputText, left_of, asked_text}
use Rattle.standard_input.specs.Streams.{stream_files}
use Rattle.logparser_cli.specs.Files.{AreLeft, AreWritten}

-- what the disk and standard output hold at one moment: the files, where the disk tells them, and what was written
pub record Held : Type 1 where
  pub tells : Type 0
  pub files : Contents
  pub out : Option (List ℕ)

abbrev pub held : Type 0 → Contents → Option (List ℕ) → Held
held tells files out = record { tells = tells; files = files; out = out }

-- what is known of standard input at one moment: what is left of it, where it tells that, and how many bytes it has given
pub record Input : Type 0 where
  pub left : Option (List ℕ)
  pub given : ℕ
  pub faults : ℕ

abbrev pub input_at : {I : Type 0} → (I → Option (List ℕ)) → (I → ℕ) → (I → ℕ) → I → Input
input_at left given faults input = record { left = left input; given = given input; faults = faults input }

-- what is known of the outside at one moment: the logs' files, what the outputs hold, how often each has failed, and standard input
pub record World : Type 1 where
  pub folder : Option Folder
  pub logs_faults : ℕ
  pub held : Held
  pub disk_faults : ℕ
  pub out_faults : ℕ
  pub err : Option (List ℕ)
  pub err_faults : ℕ
  pub input : Input

abbrev pub world : Option Folder → ℕ → Held → ℕ → ℕ → Option (List ℕ) → ℕ → Input → World
world folder logs_faults held disk_faults out_faults err err_faults input =
    record { folder = folder; logs_faults = logs_faults; held = held; disk_faults = disk_faults; out_faults = out_faults; err = err; err_faults = err_faults; input = input }

-- a world in which standard input stands where the logs do, as these files, and so many faults of it
abbrev pub stream_world : Option Folder → ℕ → World → World
stream_world files faults now = record {
  folder = files;
  logs_faults = faults;
  held = now.held;
  disk_faults = now.disk_faults;
  out_faults = now.out_faults;
  err = now.err;
  err_faults = now.err_faults;
  input = now.input;
}

-- what standard input gives is all that was left of it at the start
abbrev pub input_world : World → World → World
input_world start now = stream_world (option_map stream_files start.input.left) now.input.faults now

-- nothing was written
pub record IsUnwritten (old new : Held) : Type 0 where
  pub out : new.out ≡ old.out
  pub files : new.files ≡ old.files

-- Rows went to files: each has what its mode makes of it, and standard output stays.
pub record AreInFiles (old new : Held) (files : Files) (text : OutputText) (rows : List Row) : Type 0 where
  pub good : AreGood files.forbidden (output_names files.pattern rows)
  pub written : new.tells → AreWritten files text rows old.files new.files
  pub out : new.out ≡ old.out

-- Rows went to standard output, and no file changed.
pub record AreInOutput (old new : Held) (text : OutputText) (rows : List Row) : Type 0 where
  pub gained : Gains old.out new.out (text true rows)
  pub files : new.files ≡ old.files

abbrev pub AreOut : Held → Held → Option Files → OutputText → List Row → Type 0
AreOut old new None text rows = AreInOutput old new text rows
AreOut old new (Some files) text rows = AreInFiles old new files text rows

-- what is left of the rows of a query was written
unfoldable pub HasWritten : Held → Held → Asked → List Row → Type 0
HasWritten old new asked rows = AreOut old new asked.files (asked_text asked) (left_of asked rows)

-- Rows were to go to files, of which some may have changed.
pub record AreCutFiles (old new : Held) (files : Files) (rows : List Row) : Type 0 where
  pub left : new.tells → AreLeft files rows old.files new.files
  pub out : new.out ≡ old.out

-- Rows were to go to standard output, which has the front of their text.
pub record IsCutOutput (old new : Held) (text : OutputText) (rows : List Row) : Type 0 where
  pub front : GainsSome old.out new.out (text true rows)
  pub files : new.files ≡ old.files

abbrev pub AreCut : Held → Held → Option Files → OutputText → List Row → Type 0
AreCut old new None text rows = IsCutOutput old new text rows
AreCut old new (Some files) text rows = AreCutFiles old new files rows

-- it was to be written
unfoldable pub HasFront : Held → Held → Asked → List Row → Type 0
HasFront old new asked rows = AreCut old new asked.files (asked_text asked) (left_of asked rows)

-- standard output failed, or the disk did
abbrev pub OutputRose : Bool → Type 0 → Type 0 → Type 0
OutputRose true disk out = out
OutputRose false disk out = disk
