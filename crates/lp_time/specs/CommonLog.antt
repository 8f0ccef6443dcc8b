-- The time of the NCSA common log format: `dd/MMM/yyyy:hh:mm:ss`, a space, a sign and four digits of offset.
use Rattle.std.specs.Prelude.{ℕ, ◌+◌, ◌*◌, Bool, ◌&&◌, ◌||◌, List, [], ◌∷◌, length, take, drop, ◌==◌, nat_lt, if◌then◌else◌, slice_index, ℤ, pos, neg_ℤ, ◌-ℤ◌, int_le, Option, Some, None, option_and_then}
use Rattle.std.specs.Str.Parse.{digits_value}
use Rattle.lp_values.specs.declared.part.Part.TheVariants.{Both}
use Rattle.lp_values.specs.Readings.{is_digits}
use Rattle.lp_time.specs.declared.field.Field.TheVariants as F
use Rattle.lp_time.specs.declared.piece.Piece.{Piece}
use Rattle.lp_time.specs.declared.piece.Piece.TheVariants.{Padded, MonthName, Other}
use Rattle.lp_time.specs.Readings.{read_onto, missing_parts, existing_seconds}

-- `dd/MMM/yyyy:hh:mm:ss`
abbrev pub local_pieces : List Piece
local_pieces = Padded F.Day ∷ Other (47 ∷ []) ∷ MonthName ∷ Other (47 ∷ []) ∷ Padded F.Year ∷ Other (58 ∷ []) ∷ Padded F.Hour ∷ Other (58 ∷ []) ∷ Padded F.Minute ∷ Other (58 ∷ []) ∷ Padded F.Second ∷ []

abbrev pub local_seconds : List ℕ → Option ℤ
local_seconds text = option_and_then (existing_seconds Both) (read_onto missing_parts local_pieces text)

abbrev pub signed_offset : ℕ → ℕ → ℤ
signed_offset sign size = if sign == 45 then neg_ℤ (pos size) else pos size

abbrev pub offset_size : List ℕ → ℕ
offset_size digits = digits_value 10 (take 2 digits) * 3600 + digits_value 10 (drop 2 digits) * 60

-- hours to 23 and minutes to 59, in two digits each
abbrev pub is_clock : List ℕ → Bool
is_clock digits = (length digits == 4) && is_digits (take 2 digits) && is_digits (drop 2 digits) && nat_lt (digits_value 10 (take 2 digits)) 24 && nat_lt (digits_value 10 (drop 2 digits)) 60

-- a space, a sign, hours and minutes
abbrev pub is_offset : List ℕ → Bool
is_offset text = (slice_index text 0 == 32) && ((slice_index text 1 == 43) || (slice_index text 1 == 45)) && is_clock (drop 2 text)

abbrev pub offset_in : List ℕ → Option ℤ
offset_in text = if is_offset text then Some (signed_offset (slice_index text 1) (offset_size (drop 2 text))) else None

-- the local time less the offset, in the years 1 to 9999
abbrev pub utc_seconds : ℤ → ℤ → Option ℤ
utc_seconds offset local = if int_le (neg_ℤ (pos 62_135_596_800)) (local -ℤ offset) && int_le (local -ℤ offset) (pos 253_402_300_799) then Some (local -ℤ offset) else None

abbrev pub clf_seconds : List ℕ → Option ℤ
clf_seconds text = option_and_then (λ offset. option_and_then (utc_seconds offset) (local_seconds (take 20 text))) (offset_in (drop 20 text))
