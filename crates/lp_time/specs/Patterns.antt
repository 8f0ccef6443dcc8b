-- The pieces of a pattern.
use Rattle.std.specs.Prelude.{ℕ, zero, suc, ◌+◌, Bool, false, not, ◌&&◌, List, [], ◌∷◌, ◌++◌, length, take, drop, min, ◌==◌, nat_le, nat_lt, if◌then◌else◌, Option, Some, None, Result, Ok, Err, is_some}
use Rattle.std.specs.Char.{is_ascii_alphabetic}
use Rattle.std.specs.List.{prefix_len, list_any}
use Rattle.std.specs.Option.{option_map_or, option_to_list}
use Rattle.lp_time.specs.declared.field.Field.{Field}
use Rattle.lp_time.specs.declared.field.Field.TheVariants as F
use Rattle.lp_time.specs.declared.piece.Piece.{Piece}
use Rattle.lp_time.specs.declared.piece.Piece.TheVariants.{Padded, Short, MonthName, Other}

abbrev pub field_item : Field → ℕ → Option Piece
field_item field count = if count == 2 then Some (Padded field) else if count == 1 then Some (Short field) else None

-- the item that so many of a letter are: `yyyy`, `MMM`, or one or two of `M`, `d`, `h`, `m` and `s`
abbrev pub item_of : ℕ → ℕ → Option Piece
item_of letter count =
    if letter == 121 then (if count == 4 then Some (Padded F.Year) else None)
    else if letter == 77 then (if count == 3 then Some MonthName else field_item F.Month count)
    else if letter == 100 then field_item F.Day count
    else if letter == 104 then field_item F.Hour count
    else if letter == 109 then field_item F.Minute count
    else if letter == 115 then field_item F.Second count
    else None

-- a byte of a character behind its first one
abbrev pub is_continuation : ℕ → Bool
is_continuation byte = nat_le 128 byte && nat_lt byte 192

-- the bytes of the first piece of a text: a run of one letter, or one other character
abbrev pub front_size : List ℕ → ℕ
front_size [] = 0
front_size (c ∷ cs) = 1 + (if is_ascii_alphabetic c then prefix_len (λ b. b == c) cs else min 3 (prefix_len is_continuation cs))

-- the first piece of a text, where it is one
abbrev pub front_piece : List ℕ → Option Piece
front_piece [] = None
front_piece (c ∷ cs) = if is_ascii_alphabetic c then item_of c (front_size (c ∷ cs)) else Some (Other (take (front_size (c ∷ cs)) (c ∷ cs)))

abbrev pub field_of : Piece → Option Field
field_of (Padded field) = Some field
field_of (Short field) = Some field
field_of MonthName = Some F.Month
field_of (Other character) = None

-- the place of a part in its date or time
abbrev pub field_place : Field → ℕ
field_place F.Year = 0
field_place F.Month = 1
field_place F.Day = 2
field_place F.Hour = 3
field_place F.Minute = 4
field_place F.Second = 5

abbrev pub is_same_field : Field → Field → Bool
is_same_field a b = field_place a == field_place b

-- whether some of the pieces stands for this part
abbrev pub has_field : List Piece → Field → Bool
has_field pieces field = list_any (λ piece. option_map_or (is_same_field field) (field_of piece) false) pieces

-- whether a piece stands for a part that no piece before it stands for
abbrev pub is_new : List Piece → Piece → Bool
is_new before piece = not (option_map_or (has_field before) (field_of piece) false)

abbrev pub has_items : List Piece → Bool
has_items pieces = list_any (λ piece. is_some (field_of piece)) pieces

-- whether the first piece of a text may follow others
abbrev pub takes : List Piece → List ℕ → Bool
takes before text = nat_lt (length before) 64 && option_map_or (is_new before) (front_piece text) false

-- the pieces of a text behind others, or the place of the first fault: a run that is no item, a second item for one part,
-- a piece without room, and at the end no item at all
unfoldable pub pieces_from : ℕ → List Piece → ℕ → List ℕ → Result (List Piece) ℕ
pieces_from room before at [] = if has_items before then Ok before else Err at
pieces_from zero before at (c ∷ cs) = Err at
pieces_from (suc room) before at (c ∷ cs) =
    if option_map_or (is_new before) (front_piece (c ∷ cs)) false
    then pieces_from room (before ++ option_to_list (front_piece (c ∷ cs))) (at + front_size (c ∷ cs)) (drop (front_size (c ∷ cs)) (c ∷ cs))
    else Err at

-- a pattern has room for 64 pieces
abbrev pub pattern_in : List ℕ → Result (List Piece) ℕ
pattern_in text = pieces_from 64 [] 0 text
