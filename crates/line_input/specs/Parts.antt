-- The parts of a line that stand apart.
use Rattle.std.specs.Prelude.{◌≡◌, ◌≤◌, ◌<◌, ℕ, Bool, false, ◌||◌, ◌==◌, List, [], ◌∷◌, Option, Some, None, if◌then◌else◌, length, drop, filter, nat_lt}
use Rattle.std.specs.List.{slice_split}
use Rattle.line_input.specs.Words.{is_word_gap}
use Rattle.line_input.specs.declared.gap.Gap.{Gap}
use Rattle.line_input.specs.declared.gap.Gap.TheVariants.{Spaces, Blanks, Words}
use Rattle.line_input.specs.declared.extent.Extent.{Extent}
use Rattle.line_input.specs.Taken.{part_of}

-- space; space, tab; what parts words
abbrev pub is_gap : Gap → ℕ → Bool
is_gap Spaces byte = byte == 32
is_gap Blanks byte = byte == 32 || byte == 9
is_gap Words byte = is_word_gap byte

abbrev pub is_filled : List ℕ → Bool
is_filled part = nat_lt 0 (length part)

-- what stands between the bytes that part a text, where it isn't empty
unfoldable pub parts_by : (ℕ → Bool) → List ℕ → List (List ℕ)
parts_by gap text = filter is_filled (slice_split gap text)

-- a field that is `-` alone
abbrev pub is_dash : List ℕ → Bool
is_dash [] = false
is_dash (b ∷ []) = b == 45
is_dash (b ∷ c ∷ bs) = false

-- a field that is `-` is none
abbrev pub field_of : List ℕ → Option (List ℕ)
field_of field = if is_dash field then None else Some field

-- the part that stands first from a place of a line on
pub record IsNextPart (gap : ℕ → Bool) (line : List ℕ) (at : ℕ) (part : Extent) : Type 0 where
  pub after : at ≤ part.from
  pub some : part.from < part.to
  pub within : part.to ≤ length line
  pub parts : parts_by gap (drop at line) ≡ part_of line part.from part.to ∷ parts_by gap (drop part.to line)
