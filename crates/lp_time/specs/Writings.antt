-- Stamps written by a pattern.
use Rattle.std.specs.Prelude.{ℕ, ◌-◌, List, [], decimal, slice_index_or}
use Rattle.std.specs.List.{flat_map}
use Rattle.lp_values.specs.declared.civil.Civil.{Civil}
use Rattle.lp_values.specs.Digits.{two_digits, four_digits}
use Rattle.lp_time.specs.declared.field.Field.{Field}
use Rattle.lp_time.specs.declared.field.Field.TheVariants as F
use Rattle.lp_time.specs.declared.piece.Piece.{Piece}
use Rattle.lp_time.specs.declared.piece.Piece.TheVariants.{Padded, Short, MonthName, Other}
use Rattle.lp_time.specs.Readings.{month_names}

abbrev pub number_of : Civil → Field → ℕ
number_of civil F.Year = civil.year
number_of civil F.Month = civil.month
number_of civil F.Day = civil.day
number_of civil F.Hour = civil.hour
number_of civil F.Minute = civil.minute
number_of civil F.Second = civil.second

abbrev pub padded_text : Civil → Field → List ℕ
padded_text civil F.Year = four_digits civil.year
padded_text civil F.Month = two_digits civil.month
padded_text civil F.Day = two_digits civil.day
padded_text civil F.Hour = two_digits civil.hour
padded_text civil F.Minute = two_digits civil.minute
padded_text civil F.Second = two_digits civil.second

abbrev pub written_piece : Civil → Piece → List ℕ
written_piece civil (Padded field) = padded_text civil field
written_piece civil (Short field) = decimal (number_of civil field)
written_piece civil MonthName = slice_index_or month_names (civil.month - 1) []
written_piece civil (Other character) = character

-- each piece from a civil date and time
abbrev pub written : List Piece → Civil → List ℕ
written pieces civil = flat_map (written_piece civil) pieces
