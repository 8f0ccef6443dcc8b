-- Lines of fields, in which no field holds a byte that would break it.
use Rattle.std.specs.Prelude.{ℕ, Bool, ◌||◌, ◌&&◌, List, [], ◌∷◌, ◌++◌, length, map, ◌==◌, if◌then◌else◌}
use Rattle.std.specs.List.{join_with_byte}
use Rattle.text_formats.specs.declared.style.Style.{Style}

-- a byte that would break a field: the separator, the further byte, LF or CR
abbrev pub breaks : Style → ℕ → Bool
breaks style byte = (byte == style.separator || byte == style.blank || byte == 10) || byte == 13

abbrev pub kept_byte : Style → ℕ → ℕ
kept_byte style byte = if breaks style byte then style.instead else byte

abbrev pub field_of : Style → List ℕ → List ℕ
field_of style text = if style.dashed && length text == 0 then 45 ∷ [] else map (kept_byte style) text

-- the fields between separators, and LF
abbrev pub line_of : Style → List (List ℕ) → List ℕ
line_of style fields = join_with_byte style.separator (map (field_of style) fields) ++ 10 ∷ []
