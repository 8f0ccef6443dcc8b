-- Where a text may be cut.
use Rattle.std.specs.Str.{IsCharBoundary, IsUtf8}
use Rattle.std.specs.List.{prefix_len}
use Rattle.std.proofs.Common.{◌≡◌, ℕ, zero, suc, ◌+◌, ◌≤◌, ◌<◌, Bool, true, false, List, [], ◌∷◌, length, get_or, refl, sym, subst, arith, inl, inr}
use Rattle.std.proofs.lemmas.Str.{IsCharBoundary-end, IsCharBoundary-start, IsCharBoundary-before_ascii, IsCharBoundary-after_ascii}
use Rattle.std.proofs.lemmas.List.Sums.{prefix_len-le-length, prefix_len_passes, prefix_len_stops}
use Rattle.std.proofs.Math.Nat.{eq-or-lt_of_le}
use Rattle.std.proofs.lemmas.Bool.Decides.{nat_tests}
use Rattle.query_lexer.specs.Bytes.{is_blank, is_digit, is_word_byte, is_name_byte}

name_ends : (b : ℕ) → is_name_byte b ≡ false → b < 128
name_ends b is = grind (arith, nat_tests)

pub word_is_ascii : (b : ℕ) → is_word_byte b ≡ true → b < 128
word_is_ascii b is = grind (arith, nat_tests)

pub digit_is_ascii : (b : ℕ) → is_digit b ≡ true → b < 128
digit_is_ascii b is = grind (arith, nat_tests)

pub blank_is_ascii : (b : ℕ) → is_blank b ≡ true → b < 128
blank_is_ascii b is = grind (arith, nat_tests)

-- behind a byte of ASCII
pub behind_ascii : (all : List ℕ) (n : ℕ) → IsUtf8 all → n < length all → get_or all n 0 < 128 → IsCharBoundary all (suc n)
behind_ascii all n utf8 lt is = let one : n + 1 ≡ suc n = omega arith in subst (λ (m : ℕ). IsCharBoundary all m) one (IsCharBoundary-after_ascii all n utf8 lt is)

-- behind a front of bytes that are ASCII
pub front_boundary : (p : ℕ → Bool) (all : List ℕ) (n : ℕ) → ((b : ℕ) → p b ≡ true → b < 128) → IsUtf8 all → prefix_len p all ≡ n → IsCharBoundary all n
front_boundary p all zero ascii utf8 is = IsCharBoundary-start all utf8
front_boundary p all (suc n) ascii utf8 is =
    let le : prefix_len p all ≤ length all = prefix_len-le-length p all in
    behind_ascii all n utf8 (omega arith) (ascii _ (prefix_len_passes p all n 0 (omega arith)))

-- before a byte of ASCII that ends a front
pub front_ends : (p : ℕ → Bool) (all : List ℕ) → ((b : ℕ) → p b ≡ false → b < 128) → IsUtf8 all → IsCharBoundary all (prefix_len p all)
front_ends p all ascii utf8 =
    let le : prefix_len p all ≤ length all = prefix_len-le-length p all in
    elim (eq-or-lt_of_le le) [
      | inr lt ↦ IsCharBoundary-before_ascii all (prefix_len p all) lt (ascii _ (prefix_len_stops p all 0 lt))
      | inl is ↦ subst (λ (m : ℕ). IsCharBoundary all m) (sym is) (IsCharBoundary-end all)
    ]

pub name_boundary : (all : List ℕ) → IsUtf8 all → IsCharBoundary all (prefix_len is_name_byte all)
name_boundary all utf8 = front_ends is_name_byte all name_ends utf8

pub word_boundary : (all : List ℕ) → IsUtf8 all → IsCharBoundary all (prefix_len is_word_byte all)
word_boundary all utf8 = front_boundary is_word_byte all _ word_is_ascii utf8 refl

-- behind a first byte of ASCII that is not NUL
pub behind_first : (all : List ℕ) (b : ℕ) → IsUtf8 all → get_or all 0 0 ≡ b → 0 < b → b < 128 → IsCharBoundary all 1
behind_first [] b utf8 is more less = absurd (omega arith)
behind_first (x ∷ xs) b utf8 is more less = behind_ascii (x ∷ xs) 0 utf8 (omega arith) (omega arith)
