-- A token has bytes, and ends where a character begins.
use Rattle.std.specs.Str.{IsCharBoundary, IsUtf8}
use Rattle.std.specs.List.{prefix_len, position, position_or_len}
use Rattle.std.proofs.Common.{◌≡◌, ℕ, zero, suc, ◌+◌, ◌<◌, ◌==◌, nat_lt, not, cond, Bool, true, false, List, [], ◌∷◌, ◌++◌, take, take_while, drop, length, get_or, Option, Some, None, MatchOption, ◌⊎◌, inl, inr, unwrap_or, if◌then◌else◌, refl, sym, ◌∙◌, ap, subst, arith, lit<}
use Rattle.std.proofs.lemmas.Str.{IsCharBoundary-start, IsCharBoundary-from_rest, IsUtf8-drop}
use Rattle.std.proofs.lemmas.Bool.{and_parts, or_left, eqb-true, ltb-true}
use Rattle.std.proofs.lemmas.List.Folds.{length-prefix_len}
use Rattle.std.proofs.lemmas.List.Sums.{prefix_len_stops}
use Rattle.memchr.specs.Find.{is_byte}
use Rattle.query_lexer.specs.Bytes.{is_letter, is_digit, is_word_byte, is_name_byte}
use Rattle.query_lexer.specs.Numbers.{is_signed, sign_length, whole_length, whole_of, behind_point, decimals_of}
use Rattle.query_lexer.specs.Standing.{doubled, IsString, IsWordKind, field_length, number_by, number_at, bracket_by, IsSignAt, start_of, StandsBy, Stands}
use Rattle.query_lexer.specs.Symbols.{text_of}
use Rattle.query_lexer.specs.declared.symbol.Symbol.{Symbol}
use Rattle.query_lexer.specs.declared.symbol.Symbol.TheVariants as y
use Rattle.query_lexer.specs.declared.token.TokenKind.{TokenKind}
use Rattle.query_lexer.specs.declared.token.TokenKind.TheVariants as k
use Rattle.query_lexer.specs.declared.piece.Piece.TheVariants as p
use Rattle.query_lexer.specs.declared.piece.Problem.TheVariants as problem
use Rattle.query_lexer.specs.declared.piece.Start.{Start}
use Rattle.query_lexer.specs.declared.piece.Start.TheVariants as s
use Rattle.query_lexer.proofs.Boundaries.{behind_ascii, front_boundary, name_boundary, word_boundary, digit_is_ascii}
use Rattle.query_lexer.proofs.Deciding.{string_shape, word_shape, sign_shape, kind_is}
use Rattle.query_lexer.proofs.Fields.{field_advance}
use Rattle.query_lexer.proofs.Signs.{sign_front}
use Rattle.query_lexer.proofs.Starting.{start_of_name, start_of_letter}

abbrev pub Advances : List ℕ → ℕ → Type 0
Advances all size = (0 < size) × IsCharBoundary all size

at_size : (all : List ℕ) {m n : ℕ} → m ≡ n → Advances all n → Advances all m
at_size all e is = subst (λ (i : ℕ). Advances all i) (sym e) is

front_some : (test : ℕ → Bool) (b : ℕ) (bs : List ℕ) → test b ≡ true → 0 < prefix_len test (b ∷ bs)
front_some test b bs is = rw is (omega arith)

seam : (xs ys : List ℕ) (b : ℕ) → (length xs < length (xs ++ b ∷ ys)) × (get_or (xs ++ b ∷ ys) (length xs) 0 ≡ b)
seam [] ys b = (omega arith, refl)
seam (x ∷ xs) ys b = let q = seam xs ys b in (omega (arith, q.0), q.1)

string_advance : (all text : List ℕ) (size : ℕ) → IsUtf8 all → IsString all text size → Advances all size
string_advance all text size utf8 is =
    let q = seam (39 ∷ doubled text) is.0 39 in
    let lt : suc (length (doubled text)) < length all = subst (λ (x : List ℕ). suc (length (doubled text)) < length x) (sym is.1) q.0 in
    let at : get_or all (suc (length (doubled text))) 0 ≡ 39 = ap (λ (x : List ℕ). get_or x (suc (length (doubled text))) 0) is.1 ∙ q.1 in
    let size-is : size ≡ suc (suc (length (doubled text))) = omega (arith, is.3) in
    at_size all size-is (omega arith, behind_ascii all (suc (length (doubled text))) utf8 lt (omega arith))

word_advance : (b : ℕ) (bs : List ℕ) (field : Option ℕ) (kind : TokenKind) (size : ℕ) → IsUtf8 (b ∷ bs) → is_letter b ≡ true → field_length (b ∷ bs) ≡ field
    → MatchOption field (IsWordKind (take_while is_word_byte (b ∷ bs)) kind × (size ≡ prefix_len is_word_byte (b ∷ bs))) (λ i. (kind ≡ k.Word (take i (b ∷ bs))) × (size ≡ i))
    → Advances (b ∷ bs) size
word_advance b bs None kind size utf8 letter field is = at_size (b ∷ bs) is.1 (front_some is_word_byte b bs (or_left _ _ (or_left _ _ letter)), word_boundary (b ∷ bs) utf8)
word_advance b bs (Some i) kind size utf8 letter field is = at_size (b ∷ bs) is.1 (field_advance (b ∷ bs) i utf8 field)

in_range_size : (b : Bool) (kind other : TokenKind) (m n : ℕ) → p.Token kind m ≡ (if b then p.Bad problem.NumberTooLarge else p.Token other n) → m ≡ n
in_range_size true kind other m n e = cc
in_range_size false kind other m n e = (kind_is e).1

-- what a number's size is made of
number_size : (signed : Bool) (sign : ℕ) (whole decimals : List ℕ) (kind : TokenKind) (size : ℕ) → p.Token kind size ≡ number_by signed sign whole decimals
    → (0 < length whole) × ((size ≡ sign + length whole) ⊎ ((0 < length decimals) × (size ≡ sign + length whole + 1 + length decimals)))
number_size signed sign [] decimals kind size e = cc
number_size signed sign (d ∷ ds) [] kind size e = (omega arith, inl (in_range_size _ kind _ size _ e))
number_size signed sign (d ∷ ds) (x ∷ xs) kind size e = (omega arith, inr (omega arith, in_range_size _ kind _ size _ e))

sign_boundary_by : (b : ℕ) (bs : List ℕ) (is : Bool) → (b == 45) ≡ is → IsUtf8 (b ∷ bs) → IsCharBoundary (b ∷ bs) (if is then 1 else 0)
sign_boundary_by b bs true is utf8 = let at = eqb-true b 45 is in behind_ascii (b ∷ bs) 0 utf8 (omega arith) (omega arith)
sign_boundary_by b bs false is utf8 = IsCharBoundary-start (b ∷ bs) utf8

sign_boundary : (all : List ℕ) → IsUtf8 all → IsCharBoundary all (sign_length all)
sign_boundary [] utf8 = IsCharBoundary-start [] utf8
sign_boundary (b ∷ bs) utf8 = sign_boundary_by b bs (b == 45) refl utf8

point_boundary_by : (b : ℕ) (bs : List ℕ) (is : Bool) → (b == 46) ≡ is → IsUtf8 (b ∷ bs) → 0 < length (if is then take_while is_digit bs else []) → IsCharBoundary (b ∷ bs) (1 + length (if is then take_while is_digit bs else []))
point_boundary_by b bs true is utf8 some =
    let at = eqb-true b 46 is in
    let one = behind_ascii (b ∷ bs) 0 utf8 (omega arith) (omega arith) in
    let more = front_boundary is_digit bs (length (take_while is_digit bs)) digit_is_ascii (IsUtf8-drop (b ∷ bs) 1 utf8 one) (sym (length-prefix_len is_digit bs)) in
    IsCharBoundary-from_rest (b ∷ bs) 1 (length (take_while is_digit bs)) one.0 more
point_boundary_by b bs false is utf8 some = absurd (omega arith)

point_boundary : (behind : List ℕ) → IsUtf8 behind → 0 < length (behind_point behind) → IsCharBoundary behind (1 + length (behind_point behind))
point_boundary [] utf8 some = absurd (omega arith)
point_boundary (b ∷ bs) utf8 some = point_boundary_by b bs (b == 46) refl utf8 some

number_advance : (all : List ℕ) (kind : TokenKind) (size : ℕ) → IsUtf8 all → p.Token kind size ≡ number_at all → Advances all size
number_advance all kind size utf8 e =
    let q = number_size (is_signed all) (sign_length all) (whole_of all) (decimals_of all) kind size e in
    let first = sign_boundary all utf8 in
    let width : length (whole_of all) ≡ whole_length all = length-prefix_len is_digit (drop (sign_length all) all) in
    let inner = front_boundary is_digit (drop (sign_length all) all) (length (whole_of all)) digit_is_ascii (IsUtf8-drop all (sign_length all) utf8 first) (sym width) in
    let whole : IsCharBoundary all (sign_length all + length (whole_of all)) = IsCharBoundary-from_rest all (sign_length all) (length (whole_of all)) first.0 inner in
    let some : 0 < length (whole_of all) = q.0 in
    elim q.1 [
      | inl is ↦ at_size all is (omega arith, whole)
      | inr is ↦ (
          let there : IsCharBoundary all (sign_length all + whole_length all) = subst (λ (n : ℕ). IsCharBoundary all (sign_length all + n)) width whole in
          let behind = point_boundary (drop (sign_length all + whole_length all) all) (IsUtf8-drop all (sign_length all + whole_length all) utf8 there) is.0 in
          let total = IsCharBoundary-from_rest all (sign_length all + whole_length all) (1 + length (decimals_of all)) there.0 behind in
          let same : size ≡ sign_length all + whole_length all + (1 + length (decimals_of all)) = omega (arith, is.1) in
          at_size all same (omega arith, total))
    ]

some_is : {m n : ℕ} → Some m ≡ Some n → m ≡ n
some_is e = ap (λ (o : Option ℕ). unwrap_or o 0) e

position_at_by : (hay : List ℕ) (b n at : ℕ) (lt : Bool) → nat_lt at (length hay) ≡ lt → position_or_len (is_byte b) hay ≡ at → cond lt (Some at) None ≡ Some n → (n < length hay) × (get_or hay n 0 ≡ b)
position_at_by hay b n at true lt is e =
    let same : at ≡ n = some_is e in
    let place : position_or_len (is_byte b) hay ≡ n = is ∙ same in
    let less : n < length hay = subst (λ (i : ℕ). i < length hay) same (ltb-true at (length hay) lt) in
    let stops : not (is_byte b (get_or hay (position_or_len (is_byte b) hay) 0)) ≡ false = prefix_len_stops (λ x. not (is_byte b x)) hay 0 (subst (λ (i : ℕ). i < length hay) (sym place) less) in
    (less, eqb-true _ b (not_false _ (subst (λ (i : ℕ). not (is_byte b (get_or hay i 0)) ≡ false) place stops)))
  where
    not_false : (t : Bool) → not t ≡ false → t ≡ true
    not_false true e = refl
    not_false false e = cc
position_at_by hay b n at false lt is e = cc

position_at : (hay : List ℕ) (b n : ℕ) → position (is_byte b) hay ≡ Some n → (n < length hay) × (get_or hay n 0 ≡ b)
position_at hay b n e = position_at_by hay b n (position_or_len (is_byte b) hay) _ refl refl e

bracket_advance : (b : ℕ) (bs : List ℕ) (found : Option ℕ) (kind : TokenKind) (size : ℕ) → IsUtf8 (b ∷ bs) → position (is_byte 93) bs ≡ found → p.Token kind size ≡ bracket_by bs found → Advances (b ∷ bs) size
bracket_advance b bs None kind size utf8 at e = cc
bracket_advance b bs (Some zero) kind size utf8 at e = cc
bracket_advance b bs (Some (suc n)) kind size utf8 at e =
    let q = position_at bs 93 (suc n) at in
    let same : size ≡ suc (suc (suc n)) = omega (arith, (kind_is e).1) in
    at_size (b ∷ bs) same (omega arith, behind_ascii (b ∷ bs) (suc (suc n)) utf8 (omega (arith, q.0)) (omega (arith, q.1)))

-- the last byte of a sign
last : (sign : Symbol) → (n : ℕ) × (length (text_of sign) ≡ suc n) × (0 < get_or (text_of sign) n 0) × (get_or (text_of sign) n 0 < 128)
last y.Open = (0, refl, lit< tt, lit< tt)
last y.Close = (0, refl, lit< tt, lit< tt)
last y.Comma = (0, refl, lit< tt, lit< tt)
last y.Semicolon = (0, refl, lit< tt, lit< tt)
last y.Star = (0, refl, lit< tt, lit< tt)
last y.Equal = (0, refl, lit< tt, lit< tt)
last y.NotEqual = (1, refl, lit< tt, lit< tt)
last y.Less = (0, refl, lit< tt, lit< tt)
last y.More = (0, refl, lit< tt, lit< tt)
last y.LessEqual = (1, refl, lit< tt, lit< tt)
last y.MoreEqual = (1, refl, lit< tt, lit< tt)

take_at : (all : List ℕ) (n : ℕ) → 0 < get_or (take (suc n) all) n 0 → (n < length all) × (get_or (take (suc n) all) n 0 ≡ get_or all n 0)
take_at [] n some = absurd (omega arith)
take_at (x ∷ xs) zero some = (omega arith, refl)
take_at (x ∷ xs) (suc n) some = let q = take_at xs n some in (omega (arith, q.0), q.1)

sign_advance : (all : List ℕ) (kind : TokenKind) (size : ℕ) → IsUtf8 all → IsSignAt all (p.Token kind size) → Advances all size
sign_advance all kind size utf8 is = elim (sign_shape all (p.Token kind size) is) [
  | inl x ↦ (
      let front = sign_front all x.0 x.1.0 in
      let q = last x.0 in
      let there : get_or (text_of x.0) q.0 0 ≡ get_or (take (suc q.0) all) q.0 0 = ap (λ (z : List ℕ). get_or z q.0 0) (front ∙ ap (λ (n : ℕ). take n all) q.1) in
      let r = take_at all q.0 (omega (arith, q.2, there)) in
      let same : size ≡ suc q.0 = (kind_is x.2).1 ∙ q.1 in
      at_size all same (omega arith, behind_ascii all q.0 utf8 r.0 (omega (arith, q.3, there, r.1))))
  | inr x ↦ (let e = x.1 in cc)
]

by_advance : (start : Start) (names : Bool) (b : ℕ) (bs : List ℕ) (kind : TokenKind) (size : ℕ) → start_of names b ≡ start → IsUtf8 (b ∷ bs) → StandsBy start names (b ∷ bs) (p.Token kind size) → Advances (b ∷ bs) size
by_advance s.Blank names b bs kind size start utf8 is = cc
by_advance s.Quote names b bs kind size start utf8 is = elim (string_shape names (b ∷ bs) (p.Token kind size) is) [
  | inl x ↦ at_size (b ∷ bs) (kind_is x.3).1 (string_advance (b ∷ bs) x.0 x.1 utf8 x.2)
  | inr x ↦ (let e = x.1 in cc)
]
by_advance s.Name names b bs kind size start utf8 is =
    at_size (b ∷ bs) (kind_is is).1 (front_some is_name_byte b bs (and_parts _ _ (start_of_name names b start)).1, name_boundary (b ∷ bs) utf8)
by_advance s.Letter names b bs kind size start utf8 is =
    let x = word_shape (b ∷ bs) (p.Token kind size) is in
    at_size (b ∷ bs) (kind_is x.2).1 (word_advance b bs (field_length (b ∷ bs)) x.0 x.1 utf8 (start_of_letter names b start) refl x.3)
by_advance s.Number names b bs kind size start utf8 is = number_advance (b ∷ bs) kind size utf8 is
by_advance s.Bracket names b bs kind size start utf8 is = bracket_advance b bs _ kind size utf8 refl is
by_advance s.Sign names b bs kind size start utf8 is = sign_advance (b ∷ bs) kind size utf8 is

pub token_advances : (names : Bool) (all : List ℕ) (kind : TokenKind) (size : ℕ) → IsUtf8 all → Stands names all (p.Token kind size) → Advances all size
token_advances names [] kind size utf8 stands = absurd stands
token_advances names (b ∷ bs) kind size utf8 stands = by_advance (start_of names b) names b bs kind size refl utf8 stands
