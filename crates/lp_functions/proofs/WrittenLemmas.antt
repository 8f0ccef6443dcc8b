-- What a pattern writes that was read from a text is a text.
use Rattle.std.proofs.Common.{◌≡◌, ℕ, zero, suc, ◌+◌, ◌-◌, ◌<◌, ◌≤◌, Bool, true, false, ◌==◌, List, [], ◌∷◌, ◌++◌, take, drop, min, get_or, Option, Some, None, Result, Ok, Err, refl, sym, subst, arith, inl, inr, slice_index_or, if◌then◌else◌}
use Rattle.std.specs.Bool.{⊤}
use Rattle.std.specs.Char.{encode_utf8, is_ascii_alphabetic, len_utf8}
use Rattle.std.specs.List.{prefix_len}
use Rattle.std.specs.Option.{option_map_or, option_to_list}
use Rattle.std.specs.Str.{IsAscii, IsCharBoundary, IsUtf8, encode_utf8_all}
use Rattle.std.proofs.Math.Nat.{min-eq_left, min-eq_right}
use Rattle.std.proofs.lemmas.Bool.{cases_lt, eqb-true}
use Rattle.std.proofs.lemmas.Bool.Decides.{nat_tests}
use Rattle.std.proofs.lemmas.Fmt.{IsAscii-decimal}
use Rattle.std.proofs.lemmas.List.Sums.{prefix_len-le-length, prefix_len_passes, prefix_len_stops}
use Rattle.std.proofs.lemmas.Str.{IsCharBoundary-after_ascii, IsCharBoundary-past_char, IsUtf8-append, IsUtf8-drop, IsUtf8-from_ascii, IsUtf8-nil, IsUtf8-take, len_utf8_bounds}
use Rattle.std.proofs.lemmas.Str.Ascii.{IsAscii-nil}
use Rattle.lp_values.specs.declared.civil.Civil.{Civil}
use Rattle.lp_time.specs.declared.field.Field.{Field}
use Rattle.lp_time.specs.declared.field.Field.TheVariants as F
use Rattle.lp_time.specs.declared.piece.Piece.{Piece}
use Rattle.lp_time.specs.declared.piece.Piece.TheVariants.{Padded, Short, MonthName, Other}
use Rattle.lp_time.specs.Patterns.{field_item, front_piece, front_size, has_items, is_continuation, is_new, item_of, pattern_in, pieces_from}
use Rattle.lp_time.specs.Readings.{month_names}
use Rattle.lp_time.specs.Writings.{number_of, padded_text, written, written_piece}
use Rattle.lp_functions.proofs.PrintedLemmas.{ascii_cons, two, four}

-- the bytes of the first character
first_char : (b : ℕ) (bs : List ℕ) → IsUtf8 (b ∷ bs) → (c : ℕ) × (rest : List ℕ) × (b ∷ bs ≡ encode_utf8 c ++ rest)
first_char b bs ([], (scalars, e)) = absurd (cc)
first_char b bs (c ∷ cs, (scalars, e)) = (c, encode_utf8_all cs, sym e)

continues : (b : ℕ) → is_continuation b ≡ true → (128 ≤ b) × (b < 192)
continues b e = (grind (arith, nat_tests), grind (arith, nat_tests))

stops : (b : ℕ) → is_continuation b ≡ false → 128 ≤ b → 192 ≤ b
stops b e more = grind (arith, nat_tests)

-- behind a byte and all that continue it
behind_all : (b : ℕ) (bs : List ℕ) → IsCharBoundary (b ∷ bs) (suc (prefix_len is_continuation bs))
behind_all b bs = let within = prefix_len-le-length is_continuation bs in (omega arith, λ lt more. stops (get_or bs (prefix_len is_continuation bs) 0) (prefix_len_stops is_continuation bs 0 (omega arith)) more)

-- a character of which three bytes continue the first has four
four_bytes : (b : ℕ) (bs : List ℕ) (size : ℕ) → 1 ≤ size → size ≤ 4 → 3 ≤ prefix_len is_continuation bs → IsCharBoundary (b ∷ bs) size → size ≡ 4
four_bytes b bs zero some most long at = absurd (omega arith)
four_bytes b bs (suc k) some most long at = elim (cases_lt k 3) [
  | inl less ↦
      let next = continues (get_or bs k 0) (prefix_len_passes is_continuation bs k 0 (omega arith)) in
      let low = next.0 in
      let high = next.1 in
      let within = prefix_len-le-length is_continuation bs in
      let lead : 192 ≤ get_or bs k 0 = at.1 (omega arith) low in
      absurd (omega arith)
  | inr more ↦ omega arith
]

other_ends : (b : ℕ) (bs : List ℕ) → IsUtf8 (b ∷ bs) → IsCharBoundary (b ∷ bs) (1 + min 3 (prefix_len is_continuation bs))
other_ends b bs utf8 =
    let p = prefix_len is_continuation bs in
    let first = first_char b bs utf8 in
    let size = len_utf8 first.0 in
    let bounds = len_utf8_bounds first.0 in
    let front : 0 + size ≡ size = omega arith in
    let start : IsCharBoundary (b ∷ bs) size = subst (IsCharBoundary (b ∷ bs)) front (IsCharBoundary-past_char (b ∷ bs) first.1 0 first.0 (omega arith) utf8 first.2) in
    elim (cases_lt p 3) [
      | inl short ↦
          let least : min 3 p ≡ p = min-eq_right (omega arith) in
          let same : suc p ≡ 1 + min 3 p = omega arith in
          subst (IsCharBoundary (b ∷ bs)) same (behind_all b bs)
      | inr long ↦
          let least : min 3 p ≡ 3 = min-eq_left long in
          let low = bounds.0 in
          let high = bounds.1 in
          let four_is : size ≡ 4 = four_bytes b bs size low high long start in
          let same : size ≡ 1 + min 3 p = omega arith in
          subst (IsCharBoundary (b ∷ bs)) same start
    ]

letter : (c : ℕ) → is_ascii_alphabetic c ≡ true → c < 128
letter c e = grind (arith, nat_tests)

-- in a run of one byte each is that byte
in_run : (c : ℕ) (cs : List ℕ) (k : ℕ) → k ≤ prefix_len (λ b. b == c) cs → get_or (c ∷ cs) k 0 ≡ c
in_run c cs zero within = refl
in_run c cs (suc k) within = eqb-true (get_or cs k 0) c (prefix_len_passes (λ b. b == c) cs k 0 (omega arith))

letters_end : (c : ℕ) (cs : List ℕ) → IsUtf8 (c ∷ cs) → c < 128 → IsCharBoundary (c ∷ cs) (1 + prefix_len (λ b. b == c) cs)
letters_end c cs utf8 small =
    let p = prefix_len (λ b. b == c) cs in
    let within = prefix_len-le-length (λ b. b == c) cs in
    let last : get_or (c ∷ cs) p 0 ≡ c = in_run c cs p (omega arith) in
    let same : p + 1 ≡ 1 + p = omega arith in
    subst (IsCharBoundary (c ∷ cs)) same (IsCharBoundary-after_ascii (c ∷ cs) p utf8 (omega arith) (omega arith))

ends_at : (c : ℕ) (cs : List ℕ) (is : Bool) → is_ascii_alphabetic c ≡ is → IsUtf8 (c ∷ cs) → IsCharBoundary (c ∷ cs) (1 + (if is then prefix_len (λ b. b == c) cs else min 3 (prefix_len is_continuation cs)))
ends_at c cs true e utf8 = letters_end c cs utf8 (letter c e)
ends_at c cs false e utf8 = other_ends c cs utf8

-- a text may be cut behind its first piece
front_ends : (c : ℕ) (cs : List ℕ) → IsUtf8 (c ∷ cs) → IsCharBoundary (c ∷ cs) (front_size (c ∷ cs))
front_ends c cs utf8 = ends_at c cs (is_ascii_alphabetic c) refl utf8

-- a character of a piece is a text
abbrev IsWhole : Piece → Type 0
IsWhole (Padded field) = ⊤
IsWhole (Short field) = ⊤
IsWhole MonthName = ⊤
IsWhole (Other character) = IsUtf8 character

abbrev AreWhole : List Piece → Type 0
AreWhole [] = ⊤
AreWhole (piece ∷ pieces) = IsWhole piece × AreWhole pieces

abbrev IsWholeIf : Option Piece → Type 0
IsWholeIf None = ⊤
IsWholeIf (Some piece) = IsWhole piece

either : (b : Bool) (x y : Option Piece) → IsWholeIf x → IsWholeIf y → IsWholeIf (if b then x else y)
either true x y one two = one
either false x y one two = two

field_whole : (field : Field) (count : ℕ) → IsWholeIf (field_item field count)
field_whole field count = either (count == 2) (Some (Padded field)) (if count == 1 then Some (Short field) else None) tt (either (count == 1) (Some (Short field)) None tt tt)

item_whole : (letter count : ℕ) → IsWholeIf (item_of letter count)
item_whole letter count =
    either (letter == 121) _ _ (either (count == 4) (Some (Padded F.Year)) None tt tt)
    (either (letter == 77) _ _ (either (count == 3) (Some MonthName) (field_item F.Month count) tt (field_whole F.Month count))
    (either (letter == 100) _ _ (field_whole F.Day count)
    (either (letter == 104) _ _ (field_whole F.Hour count)
    (either (letter == 109) _ _ (field_whole F.Minute count)
    (either (letter == 115) _ _ (field_whole F.Second count) tt)))))

front_whole : (c : ℕ) (cs : List ℕ) → IsUtf8 (c ∷ cs) → IsWholeIf (front_piece (c ∷ cs))
front_whole c cs utf8 =
    either (is_ascii_alphabetic c) (item_of c (front_size (c ∷ cs))) (Some (Other (take (front_size (c ∷ cs)) (c ∷ cs)))) (item_whole c (front_size (c ∷ cs)))
    (IsUtf8-take (c ∷ cs) (front_size (c ∷ cs)) utf8 (front_ends c cs utf8))

one_more : (pieces : List Piece) (piece : Option Piece) → AreWhole pieces → IsWholeIf piece → AreWhole (pieces ++ option_to_list piece)
one_more [] None are is = tt
one_more [] (Some piece) are is = (is, tt)
one_more (first ∷ pieces) piece are is = (are.0, one_more pieces piece are.1 is)

at_end : (b : Bool) (before pieces : List Piece) (at : ℕ) → AreWhole before → (if b then Ok before else Err at) ≡ Ok pieces → AreWhole pieces
at_end true before pieces at are e = let same : before ≡ pieces = cc in subst AreWhole same are
at_end false before pieces at are e = absurd (cc)

taken : (b : Bool) (r : Result (List Piece) ℕ) (pieces : List Piece) (at : ℕ) → (if b then r else Err at) ≡ Ok pieces → r ≡ Ok pieces
taken true r pieces at e = e
taken false r pieces at e = absurd (cc)

pieces_whole : (room : ℕ) (before : List Piece) (at : ℕ) (text : List ℕ) (pieces : List Piece) → AreWhole before → IsUtf8 text → pieces_from room before at text ≡ Ok pieces → AreWhole pieces
unfolding pieces_from
pieces_whole zero before at [] pieces are utf8 e = at_end (has_items before) before pieces at are e
pieces_whole zero before at (c ∷ cs) pieces are utf8 e = absurd (cc)
pieces_whole (suc room) before at [] pieces are utf8 e = at_end (has_items before) before pieces at are e
pieces_whole (suc room) before at (c ∷ cs) pieces are utf8 e =
    let size = front_size (c ∷ cs) in
    let piece = front_piece (c ∷ cs) in
    pieces_whole room (before ++ option_to_list piece) (at + size) (drop size (c ∷ cs)) pieces (one_more before piece are (front_whole c cs utf8)) (IsUtf8-drop (c ∷ cs) size utf8 (front_ends c cs utf8))
    (taken (option_map_or (is_new before) piece false) (pieces_from room (before ++ option_to_list piece) (at + size) (drop size (c ∷ cs))) pieces at e)

padded : (civil : Civil) (field : Field) → IsAscii (padded_text civil field)
padded civil F.Year = four civil.year
padded civil F.Month = two civil.month
padded civil F.Day = two civil.day
padded civil F.Hour = two civil.hour
padded civil F.Minute = two civil.minute
padded civil F.Second = two civil.second

three : (a b c : ℕ) → a < 128 → b < 128 → c < 128 → IsAscii (a ∷ b ∷ c ∷ [])
three a b c x y z = ascii_cons a (b ∷ c ∷ []) x (ascii_cons b (c ∷ []) y (ascii_cons c [] z IsAscii-nil))

abbrev AreAscii : List (List ℕ) → Type 0
AreAscii [] = ⊤
AreAscii (name ∷ names) = IsAscii name × AreAscii names

at_place : (names : List (List ℕ)) → AreAscii names → (k : ℕ) → IsAscii (slice_index_or names k [])
at_place [] are k = IsAscii-nil
at_place (name ∷ names) are zero = are.0
at_place (name ∷ names) are (suc k) = at_place names are.1 k

names_ascii : AreAscii month_names
names_ascii = (
  three 74 97 110 (omega arith) (omega arith) (omega arith),
  (
    three 70 101 98 (omega arith) (omega arith) (omega arith),
    (
      three 77 97 114 (omega arith) (omega arith) (omega arith),
      (
        three 65 112 114 (omega arith) (omega arith) (omega arith),
        (
          three 77 97 121 (omega arith) (omega arith) (omega arith),
          (
            three 74 117 110 (omega arith) (omega arith) (omega arith),
            (
              three 74 117 108 (omega arith) (omega arith) (omega arith),
              (
                three 65 117 103 (omega arith) (omega arith) (omega arith),
                (
                  three 83 101 112 (omega arith) (omega arith) (omega arith),
                  (
                    three 79 99 116 (omega arith) (omega arith) (omega arith),
                    (
                      three 78 111 118 (omega arith) (omega arith) (omega arith),
                      (
                        three 68 101 99 (omega arith) (omega arith) (omega arith),
                        tt,
                      ),
                    ),
                  ),
                ),
              ),
            ),
          ),
        ),
      ),
    ),
  ),
)

month : (k : ℕ) → IsAscii (slice_index_or month_names k [])
month k = at_place month_names names_ascii k

piece_text : (civil : Civil) → ((field : Field) → number_of civil field < 10_000) → (piece : Piece) → IsWhole piece → IsUtf8 (written_piece civil piece)
piece_text civil fits (Padded field) is = IsUtf8-from_ascii (padded_text civil field) (padded civil field)
piece_text civil fits (Short field) is = let small = fits field in IsUtf8-from_ascii (written_piece civil (Short field)) (IsAscii-decimal (number_of civil field) (omega arith))
piece_text civil fits MonthName is = IsUtf8-from_ascii (slice_index_or month_names (civil.month - 1) []) (month (civil.month - 1))
piece_text civil fits (Other character) is = is

pieces_text : (civil : Civil) → ((field : Field) → number_of civil field < 10_000) → (pieces : List Piece) → AreWhole pieces → IsUtf8 (written pieces civil)
pieces_text civil fits [] are = IsUtf8-nil
pieces_text civil fits (piece ∷ pieces) are = IsUtf8-append (written_piece civil piece) (written pieces civil) (piece_text civil fits piece are.0) (pieces_text civil fits pieces are.1)

pub written_text : (text : List ℕ) (pieces : List Piece) (civil : Civil) → IsUtf8 text → pattern_in text ≡ Ok pieces → ((field : Field) → number_of civil field < 10_000) → IsUtf8 (written pieces civil)
written_text text pieces civil utf8 e fits = pieces_text civil fits pieces (pieces_whole 64 [] 0 text pieces tt utf8 e)
