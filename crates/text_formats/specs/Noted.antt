-- Cells whose texts stand in one list of bytes, and what is noted of each.
use Rattle.std.specs.Prelude.{◌≡◌, ◌+◌, ◌≤◌, ℕ, Bool, ◌||◌, List, length, take, drop, map, nat_lt, nat_le}
use Rattle.std.specs.List.{AllByRecursion}
use Rattle.text_formats.specs.declared.line.Cell.{Cell}
use Rattle.text_formats.specs.Tables.{Cells, scalars}

-- the text of a cell
abbrev pub cell_text : List ℕ → Cell → List ℕ
cell_text texts cell = take cell.size (drop cell.start texts)

abbrev pub texts_in : List ℕ → List Cell → Cells
texts_in texts cells = map (cell_text texts) cells

-- a cell's text is there, and is as wide as it is noted
abbrev pub IsNoted : List ℕ → Cell → Type 0
IsNoted texts cell = (cell.start + cell.size ≤ length texts) × (cell.width ≡ scalars (cell_text texts cell))

abbrev pub AreNoted : List ℕ → List Cell → Type 0
AreNoted texts cells = AllByRecursion (IsNoted texts) cells

-- a byte that is no whole character, or a control character
abbrev pub is_odd : ℕ → Bool
is_odd byte = nat_lt byte 32 || nat_le 127 byte
