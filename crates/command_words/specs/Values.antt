-- What the text of each kind of value means; none where it is no such value.
use Rattle.std.specs.Prelude.{ℕ, Bool, true, false, not, ◌&&◌, ◌==◌, nat_le, List, [], ◌∷◌, ◌++◌, codes, is_none, if◌then◌else◌, Option, Some, None, option_and_then}
use Rattle.std.specs.Result.{result_ok}
use Rattle.lp_outside.specs.NameFault.{name_fault}
use Rattle.lp_time.specs.Patterns.{pattern_in}
use Rattle.lp_time.specs.declared.piece.Piece.{Piece}
use Rattle.output_formats.specs.declared.csv.Headers.{Headers}
use Rattle.output_formats.specs.declared.csv.Headers.TheVariants as H
use Rattle.command_words.specs.declared.modes.Rotation.{Rotation}
use Rattle.command_words.specs.declared.modes.Rotation.TheVariants as R
use Rattle.command_words.specs.declared.modes.FileMode.{FileMode}
use Rattle.command_words.specs.declared.modes.FileMode.TheVariants as F
use Rattle.command_words.specs.Texts.{same_text}
use Rattle.command_words.specs.Numbers.{number_in, count_of, limit_of}

abbrev pub switch_in : List ℕ → Option Bool
switch_in text = if same_text text (codes "ON") then Some true else if same_text text (codes "OFF") then Some false else None

abbrev pub rotation_in : List ℕ → Option Rotation
rotation_in text = if same_text text (codes "NAMES") then Some R.Names else if same_text text (codes "NUMBERS") then Some R.Numbers else None

abbrev pub headers_in : List ℕ → Option Headers
headers_in text = if same_text text (codes "AUTO") then Some H.Auto else if same_text text (codes "ON") then Some H.On else if same_text text (codes "OFF") then Some H.Off else None

-- one visible ASCII character but `"`
abbrev pub character_in : List ℕ → Option ℕ
character_in [] = None
character_in (byte ∷ []) = if nat_le 33 byte && nat_le byte 126 && not (byte == 34) then Some byte else None
character_in (byte ∷ next ∷ more) = None

-- `tab`, `space` or a character
abbrev pub separator_in : List ℕ → Option ℕ
separator_in text = if same_text text (codes "tab") then Some 9 else if same_text text (codes "space") then Some 32 else character_in text

-- bad lines that are passed over, or -1 for all
abbrev pub errors_in : List ℕ → Option (Option ℕ)
errors_in text = option_and_then (limit_of 0 2147483647) (number_in text)

-- rows before the names come again, or -1 for never
abbrev pub rows_in : List ℕ → Option (Option ℕ)
rows_in text = option_and_then (limit_of 1 10000) (number_in text)

abbrev pub lines_in : List ℕ → Option ℕ
lines_in text = option_and_then (count_of 0 1000) (number_in text)

abbrev pub mode_of : ℕ → Option FileMode
mode_of number = if number == 0 then Some F.Append else if number == 1 then Some F.Overwrite else Some F.LeaveAlone

abbrev pub mode_in : List ℕ → Option FileMode
mode_in text = option_and_then mode_of (option_and_then (count_of 0 2) (number_in text))

abbrev pub pattern_of : List ℕ → Option (List Piece)
pattern_of text = result_ok (pattern_in text)

abbrev pub is_name : List ℕ → Bool
is_name text = is_none (name_fault text)

abbrev pub name_in : List ℕ → Option (List ℕ)
name_in text = if is_name text then Some text else None

-- a name that is still one with `.stage` behind it
abbrev pub ledger_in : List ℕ → Option (List ℕ)
ledger_in text = if is_name text && is_name (text ++ codes ".stage") then Some text else None
