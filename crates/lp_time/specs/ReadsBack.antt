-- When a pattern reads back what it wrote.
use Rattle.std.specs.Prelude.{◌≡◌, Bool, true, false, not, ◌&&◌, List, [], ◌∷◌, Some}
use Rattle.std.specs.Char.{is_ascii_digit}
use Rattle.lp_values.specs.declared.part.Part.{Part}
use Rattle.lp_values.specs.declared.part.Part.TheVariants.{Date, Time, Both}
use Rattle.lp_values.specs.declared.stamp.Stamp.{Stamp}
use Rattle.lp_values.specs.Civil.{civil_of}
use Rattle.lp_time.specs.declared.field.Field.TheVariants as F
use Rattle.lp_time.specs.declared.piece.Piece.{Piece}
use Rattle.lp_time.specs.declared.piece.Piece.TheVariants.{Padded, Short, MonthName, Other}
use Rattle.lp_time.specs.Patterns.{has_field}
use Rattle.lp_time.specs.Readings.{pattern_part, seconds_in}
use Rattle.lp_time.specs.Writings.{written}

abbrev pub has_whole_date : List Piece → Bool
has_whole_date pieces = has_field pieces F.Year && has_field pieces F.Month && has_field pieces F.Day

abbrev pub has_whole_time : List Piece → Bool
has_whole_time pieces = has_field pieces F.Hour && has_field pieces F.Minute && has_field pieces F.Second

-- all items of a part
abbrev pub has_all : Part → List Piece → Bool
has_all Date pieces = has_whole_date pieces
has_all Time pieces = has_whole_time pieces
has_all Both pieces = has_whole_date pieces && has_whole_time pieces

abbrev pub may_begin_with_digit : List Piece → Bool
may_begin_with_digit [] = false
may_begin_with_digit (Padded field ∷ pieces) = true
may_begin_with_digit (Short field ∷ pieces) = true
may_begin_with_digit (MonthName ∷ pieces) = false
may_begin_with_digit (Other [] ∷ pieces) = true
may_begin_with_digit (Other (c ∷ cs) ∷ pieces) = is_ascii_digit c

-- no digit stands directly behind an item of one digit or two
abbrev pub is_clear : List Piece → Bool
is_clear [] = true
is_clear (Padded field ∷ pieces) = is_clear pieces
is_clear (Short F.Year ∷ pieces) = false
is_clear (Short F.Month ∷ pieces) = not (may_begin_with_digit pieces) && is_clear pieces
is_clear (Short F.Day ∷ pieces) = not (may_begin_with_digit pieces) && is_clear pieces
is_clear (Short F.Hour ∷ pieces) = not (may_begin_with_digit pieces) && is_clear pieces
is_clear (Short F.Minute ∷ pieces) = not (may_begin_with_digit pieces) && is_clear pieces
is_clear (Short F.Second ∷ pieces) = not (may_begin_with_digit pieces) && is_clear pieces
is_clear (MonthName ∷ pieces) = is_clear pieces
is_clear (Other character ∷ pieces) = is_clear pieces

-- a pattern with all items of the stamp's part and no others gives the stamp back
abbrev pub ReadsBack : List Piece → Stamp → Type 0
ReadsBack pieces stamp = pattern_part pieces ≡ stamp.part → has_all stamp.part pieces ≡ true → is_clear pieces ≡ true → seconds_in pieces (written pieces (civil_of stamp.seconds)) ≡ Some stamp.seconds
