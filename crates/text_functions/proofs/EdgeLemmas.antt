-- Blanks at the ends of a text, and the last byte that passes a test.
use Rattle.std.specs.List.{prefix_len, suffix_len, list_any, after_last, before_last}
use Rattle.std.specs.Str.{IsUtf8, IsCharBoundary}
use Rattle.memchr.specs.Find.{IsLastByte}
use Rattle.std.proofs.Common.{◌≡◌, ℕ, zero, suc, ◌+◌, ◌-◌, ◌<◌, ◌≤◌, Bool, true, false, not, List, [], length, take, drop, get_or, reverse, Some, None, refl, sym, ap, subst, ◌∙◌, arith}
use Rattle.std.proofs.lemmas.List.{get_or-reverse, get_or_default}
use Rattle.std.proofs.lemmas.List.Sums.{prefix_len-le-length, prefix_len_passes, suffix_len-le-length, suffix_len_is}
use Rattle.std.proofs.lemmas.List.Folds.{Any-from_list_any, list_any_at}
use Rattle.std.proofs.lemmas.Bool.{false_from_ne_true}
use Rattle.std.proofs.lemmas.Bool.Decides.{nat_tests}
use Rattle.std.proofs.lemmas.Str.{IsCharBoundary-start, IsCharBoundary-end, IsCharBoundary-after_ascii, IsCharBoundary-before_ascii}
use Rattle.text_functions.specs.Edges.{is_blank, is_slash, is_point, extension_of}

blank_is_ascii : (b : ℕ) → is_blank b ≡ true → b < 128
blank_is_ascii b is = grind (arith, nat_tests)

slash_is_ascii : (b : ℕ) → is_slash b ≡ true → b < 128
slash_is_ascii b is = grind (arith, nat_tests)

point_is_ascii : (b : ℕ) → is_point b ≡ true → b < 128
point_is_ascii b is = grind (arith, nat_tests)

front_by : (text : List ℕ) (n : ℕ) → IsUtf8 text → prefix_len is_blank text ≡ n → IsCharBoundary text n
front_by text zero utf8 e = IsCharBoundary-start text utf8
front_by text (suc n) utf8 e =
    let le : prefix_len is_blank text ≤ length text = prefix_len-le-length is_blank text in
    let one : n + 1 ≡ suc n = omega arith in
    subst (IsCharBoundary text) one (IsCharBoundary-after_ascii text n utf8 (omega arith) (blank_is_ascii _ (prefix_len_passes is_blank text n 0 (omega arith))))

-- a text may be cut behind the blanks at its left
pub behind_blanks : (text : List ℕ) → IsUtf8 text → IsCharBoundary text (prefix_len is_blank text)
behind_blanks text utf8 = front_by text (prefix_len is_blank text) utf8 refl

end_by : (text : List ℕ) (n : ℕ) → IsUtf8 text → suffix_len is_blank text ≡ n → IsCharBoundary text (length text - n)
end_by text zero utf8 e = let all : length text ≡ length text - 0 = omega arith in subst (IsCharBoundary text) all (IsCharBoundary-end text)
end_by text (suc n) utf8 e =
    let le : suffix_len is_blank text ≤ length text = suffix_len-le-length is_blank text in
    let place : length text - 1 - n ≡ length text - suc n = omega arith in
    let blank : is_blank (get_or text (length text - suc n) 0) ≡ true =
    ap is_blank (ap (λ (i : ℕ). get_or text i 0) (sym place) ∙ sym (get_or-reverse text n 0 (omega arith))) ∙ prefix_len_passes is_blank (reverse text) n 0 (omega arith) in
    IsCharBoundary-before_ascii text (length text - suc n) (omega arith) (blank_is_ascii _ blank)

-- before those at its right
pub before_blanks : (text : List ℕ) → IsUtf8 text → IsCharBoundary text (length text - suffix_len is_blank text)
before_blanks text utf8 = end_by text (suffix_len is_blank text) utf8 refl

module _ (test : ℕ → Bool) where
  passes_not : (b : Bool) → b ≡ true → not b ≡ false
  passes_not b e = ap not e

  pub last_length : (text : List ℕ) (at : ℕ) → IsLastByte test text (Some at) → suffix_len (λ b. not (test b)) text ≡ length text - (at + 1)
  last_length text at (here, is) =
      let high : at < length text = here.high in
      suffix_len_is (λ b. not (test b)) text (at + 1) 0 (omega arith)
      (λ k from to. ap not (false_from_ne_true _ (here.after k from to)))
      (λ some. let place : at + 1 - 1 ≡ at = omega arith in ap (λ (i : ℕ). not (test (get_or text i 0))) place ∙ ap not is)

  pub last_none : (text : List ℕ) → IsLastByte test text None → suffix_len (λ b. not (test b)) text ≡ length text
  last_none text none =
      let all : length text - 0 ≡ length text = omega arith in
      suffix_len_is (λ b. not (test b)) text 0 0 (omega arith) (λ k from to. ap not (false_from_ne_true _ (none k from to))) (λ some. absurd (omega arith)) ∙ all

  pub after_at : (text : List ℕ) (at : ℕ) → IsLastByte test text (Some at) → after_last test text ≡ drop (at + 1) text
  after_at text at last =
      let high : at < length text = last.0.high in
      let size = last_length text at last in
      let place : length text - suffix_len (λ b. not (test b)) text ≡ at + 1 = omega arith in
      ap (λ (n : ℕ). drop n text) place

  pub before_at : (text : List ℕ) (at : ℕ) → IsLastByte test text (Some at) → before_last test text ≡ take at text
  before_at text at last =
      let high : at < length text = last.0.high in
      let size = last_length text at last in
      let place : length text - suffix_len (λ b. not (test b)) text - 1 ≡ at = omega arith in
      ap (λ (n : ℕ). take n text) place

  pub after_none : (text : List ℕ) → IsLastByte test text None → after_last test text ≡ text
  after_none text none =
      let size = last_none text none in
      let place : length text - suffix_len (λ b. not (test b)) text ≡ 0 = omega arith in
      ap (λ (n : ℕ). drop n text) place

  pub before_none : (text : List ℕ) → IsLastByte test text None → before_last test text ≡ []
  before_none text none =
      let size = last_none text none in
      let place : length text - suffix_len (λ b. not (test b)) text - 1 ≡ 0 = omega arith in
      ap (λ (n : ℕ). take n text) place

  pub any_at : (text : List ℕ) (at : ℕ) → IsLastByte test text (Some at) → list_any test text ≡ true
  any_at text at last = list_any_at test text at 0 last.0.high last.1

  pub any_none : (text : List ℕ) → IsLastByte test text None → list_any test text ≡ false
  any_none text none = false_from_ne_true _ (λ is.
      let found = Any-from_list_any test text is in
      let at : get_or text found.0 0 ≡ found.1 = get_or_default text found.0 0 found.1 found.2 ∙ found.3 in
      none found.0 (omega arith) found.2 (ap test at ∙ found.4))

  pub behind_last : (text : List ℕ) (at : ℕ) → ((b : ℕ) → test b ≡ true → b < 128) → IsUtf8 text → IsLastByte test text (Some at) → IsCharBoundary text (at + 1)
  behind_last text at ascii utf8 last = IsCharBoundary-after_ascii text at utf8 last.0.high (ascii _ last.1)

  pub before_last_is : (text : List ℕ) (at : ℕ) → ((b : ℕ) → test b ≡ true → b < 128) → IsLastByte test text (Some at) → IsCharBoundary text at
  before_last_is text at ascii last = IsCharBoundary-before_ascii text at last.0.high (ascii _ last.1)

pub behind_slash : (text : List ℕ) (at : ℕ) → IsUtf8 text → IsLastByte is_slash text (Some at) → IsCharBoundary text (at + 1)
behind_slash text at utf8 last = behind_last is_slash text at slash_is_ascii utf8 last

pub before_slash : (text : List ℕ) (at : ℕ) → IsLastByte is_slash text (Some at) → IsCharBoundary text at
before_slash text at last = before_last_is is_slash text at slash_is_ascii last

pub behind_point : (text : List ℕ) (at : ℕ) → IsUtf8 text → IsLastByte is_point text (Some at) → IsCharBoundary text (at + 1)
behind_point text at utf8 last = behind_last is_point text at point_is_ascii utf8 last

pub extension-at : (name : List ℕ) (at : ℕ) → IsLastByte is_point name (Some at) → Some (drop (at + 1) name) ≡ extension_of name
extension-at name at last =
    let is : list_any is_point name ≡ true = any_at is_point name at last in
    let part : after_last is_point name ≡ drop (at + 1) name = after_at is_point name at last in
    let whole : extension_of name ≡ Some (after_last is_point name) = (rw is refl) in
    sym (whole ∙ ap Some part)

pub extension-none : (name : List ℕ) → IsLastByte is_point name None → None ≡ extension_of name
extension-none name none = let is : list_any is_point name ≡ false = any_none is_point name none in rw is refl
