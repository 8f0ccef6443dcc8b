-- The characters of a text, one by one.
use Rattle.std.specs.Char.{encode_utf8, len_utf8}
use Rattle.std.specs.Str.{chars, encode_utf8_all, IsUtf8, IsCharBoundary}
use Rattle.std.proofs.Common.{◌≡◌, ℕ, zero, suc, ◌+◌, ◌-◌, ◌<◌, ◌≤◌, List, [], ◌∷◌, ◌++◌, length, take, drop, sym, ap, subst, ◌∙◌, arith}
use Rattle.std.proofs.lemmas.List.{length-append, take-append-drop, take_at, nil_from_length}
use Rattle.std.proofs.lemmas.Str.{chars_past_char, length-encode, len_utf8_bounds, encodes-chars, encodes_same, chars-nil, encodes-append, IsCharBoundary-at_seam}

pub first_of : (text rest : List ℕ) (c : ℕ) → IsUtf8 text → text ≡ encode_utf8 c ++ rest → (chars text ≡ c ∷ chars rest) × (length rest < length text)
first_of text rest c utf8 e =
    let size : length text ≡ length (encode_utf8 c) + length rest = ap length e ∙ length-append (encode_utf8 c) rest in
    let width : length (encode_utf8 c) ≡ len_utf8 c = length-encode c in
    let some : 1 ≤ len_utf8 c = (len_utf8_bounds c).0 in
    (chars_past_char text rest c utf8 e, omega arith)

pub no_characters : (text : List ℕ) → length text ≡ 0 → chars text ≡ []
no_characters text none = ap chars (nil_from_length text none) ∙ chars-nil

pub drop_none : (n : ℕ) (text : List ℕ) → length text ≡ 0 → text ≡ encode_utf8_all (drop n (chars text))
drop_none zero text none = nil_from_length text none ∙ sym (ap encode_utf8_all (no_characters text none))
drop_none (suc n) text none = nil_from_length text none ∙ sym (ap (λ (cs : List ℕ). encode_utf8_all (drop (suc n) cs)) (no_characters text none))

pub drop_next : (n : ℕ) (cs ds : List ℕ) (c : ℕ) → 0 < n → cs ≡ c ∷ ds → drop n cs ≡ drop (n - 1) ds
drop_next zero cs ds c some e = absurd (omega arith)
drop_next (suc n) cs ds c some e = ap (drop (suc n)) e ∙ ap (λ (m : ℕ). drop m ds) (let m : n ≡ suc n - 1 = omega arith in m)

-- what is left of a text when its last characters are taken off
pub front_of : (text behind : List ℕ) (n size : ℕ) → IsUtf8 text → IsUtf8 behind → behind ≡ encode_utf8_all (drop n (chars text)) → size ≡ length text - length behind
    → (IsCharBoundary text size) × (take size text ≡ encode_utf8_all (take n (chars text))) × (length behind ≤ length text)
front_of text behind n size utf8 other e is =
    let whole : text ≡ encode_utf8_all (take n (chars text)) ++ behind =
    sym (encodes-chars text utf8) ∙ (ap encode_utf8_all (sym (take-append-drop n (chars text))) ∙ (encodes-append (take n (chars text)) (drop n (chars text)) ∙ ap (λ (xs : List ℕ). encode_utf8_all (take n (chars text)) ++ xs) (sym e))) in
    let sizes : length text ≡ length (encode_utf8_all (take n (chars text))) + length behind = ap length whole ∙ length-append (encode_utf8_all (take n (chars text))) behind in
    let same : length (encode_utf8_all (take n (chars text))) ≡ size = omega arith in (
      subst (IsCharBoundary text) same (IsCharBoundary-at_seam text (encode_utf8_all (take n (chars text))) behind whole other),
      ap (take size) whole ∙ take_at (encode_utf8_all (take n (chars text))) behind size same,
      omega arith,
    )

-- a part of a text by positions
pub part_between : (text rest part : List ℕ) (n m : ℕ) → IsUtf8 rest → rest ≡ encode_utf8_all (drop n (chars text)) → part ≡ encode_utf8_all (take m (chars rest)) → part ≡ encode_utf8_all (take m (drop n (chars text)))
part_between text rest part n m utf8 e is =
    let same : chars rest ≡ drop n (chars text) = encodes_same (chars rest) (drop n (chars text)) (encodes-chars rest utf8 ∙ e) in
    is ∙ ap (λ (cs : List ℕ). encode_utf8_all (take m cs)) same
