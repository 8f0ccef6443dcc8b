-- What the files of outputs hold behind a run, by what they held before.
use Rattle.std.specs.Prelude.{◌≡◌, ℕ, true, false, List, [], ◌∷◌, ◌++◌, ◌==◌, length, All, ⊤}
use Rattle.disk_model.specs.Disk.{Files as Contents}
use Rattle.lp_model.specs.Outside.{Begins}
use Rattle.command_words.specs.declared.modes.FileMode.{FileMode}
use Rattle.command_words.specs.declared.modes.FileMode.TheVariants as M
use Rattle.log_listing.specs.Firsts.{is_among}
use Rattle.multiplex.specs.Splitting.{OutputRows, output_names, split}
use Rattle.order_top.specs.Finish.{Row}
use Rattle.row_output.specs.Asked.{Files, OutputText}

-- a file behind the rows of its output: their text is added, or is all that it holds; or a file that held a byte stays
abbrev pub file_after : FileMode → OutputText → List Row → List ℕ → List ℕ
file_after M.Append text rows old = old ++ text (length old == 0) rows
file_after M.Overwrite text rows old = text true rows
file_after M.LeaveAlone text rows [] = text true rows
file_after M.LeaveAlone text rows (byte ∷ old) = byte ∷ old

-- that is so of the file of an output
abbrev pub IsAfter : Files → OutputText → Contents → Contents → OutputRows → Type 0
IsAfter files text before now output = now output.name ≡ file_after files.mode text output.rows (before output.name)

-- Each file of an output has the text of its rows, and no other file changed.
pub record AreWritten (files : Files) (text : OutputText) (rows : List Row) (before now : Contents) : Type 0 where
  pub each : All (IsAfter files text before now) (split files.pattern rows)
  pub others : (name : List ℕ) → is_among (output_names files.pattern rows) name ≡ false → now name ≡ before name

-- a file behind a run that stopped: text may have been added to it, or it may hold anything, or it stays where it held a byte
abbrev pub IsLeft : FileMode → List ℕ → List ℕ → Type 0
IsLeft M.Append old new = Begins old new
IsLeft M.Overwrite old new = ⊤
IsLeft M.LeaveAlone [] new = ⊤
IsLeft M.LeaveAlone (byte ∷ old) new = new ≡ byte ∷ old

-- Files of outputs may have changed, but none with a forbidden name, and no other file did.
pub record AreLeft (files : Files) (rows : List Row) (before now : Contents) : Type 0 where
  pub each : (name : List ℕ) → IsLeft files.mode (before name) (now name)
  pub free : (name : List ℕ) → is_among files.forbidden name ≡ true → now name ≡ before name
  pub others : (name : List ℕ) → is_among (output_names files.pattern rows) name ≡ false → now name ≡ before name
