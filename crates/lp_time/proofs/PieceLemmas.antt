-- What a piece writes it takes back.
use Rattle.std.proofs.Common.{◌≡◌, ℕ, zero, suc, ◌+◌, ◌-◌, ◌/◌, ◌%◌, ◌<◌, ◌≤◌, Bool, true, false, not, ◌&&◌, List, [], ◌∷◌, ◌++◌, length, take, drop, Some, refl, ◌∙◌, ap, arith, le-leb, length-append, nat_le, nat_eq, decimal, if◌then◌else◌, inl, inr, slice_index_or}
use Rattle.std.proofs.lemmas.Bool.{cases_lt}
use Rattle.std.proofs.lemmas.Bool.Decides.{nat_tests}
use Rattle.std.proofs.lemmas.Fmt.{decimal_digit, decimal_step, digits_value-decimal, digits_decimal}
use Rattle.std.proofs.Math.Seq.{take-append_seam, drop-append_seam}
use Rattle.std.proofs.lemmas.Str.{digit_value_digit}
use Rattle.std.specs.Char.{digit_value, is_ascii_digit}
use Rattle.std.specs.Cmp.Lexicographic.{nat_list_eq_equiv}
use Rattle.std.specs.List.{starts_with}
use Rattle.std.specs.Str.Parse.{digits_value}
use Rattle.lp_values.specs.Digits.{two_digits, four_digits}
use Rattle.lp_values.specs.Readings.{is_digits}
use Rattle.lp_values.proofs.ReadingLemmas.{model}
use Rattle.lp_time.specs.Readings.{taken_digits, taken_month, short_size, month_names}

-- digits in front of a text
pub front_digits : (count n : ℕ) (front rest : List ℕ) → length front ≡ count → is_digits front ≡ true → digits_value 10 front ≡ n → taken_digits count (front ++ rest) ≡ Some (n, rest)
front_digits count n front rest long all value =
    let first : take count (front ++ rest) ≡ front = rw (← long) (take-append_seam front rest) in
    let back : drop count (front ++ rest) ≡ rest = rw (← long) (drop-append_seam front rest) in
    let fits : nat_le count (length (front ++ rest)) ≡ true = le-leb count (length (front ++ rest)) (simp length-append (omega arith)) in
    rw (fits, first, back, all, value) refl

digit_yes : (d : ℕ) → d < 10 → is_ascii_digit (48 + d) ≡ true
digit_yes d lt = grind (arith, nat_tests)

digit_is : (d : ℕ) → d < 10 → digit_value (48 + d) ≡ d
digit_is d lt = let e = digit_value_digit (48 + d) (omega arith, omega arith) in omega arith

pub two_back : (n : ℕ) (rest : List ℕ) → n < 100 → taken_digits 2 (two_digits n ++ rest) ≡ Some (n, rest)
two_back n rest lt =
    let a = digit_yes (n / 10 % 10) (omega arith) in
    let b = digit_yes (n % 10) (omega arith) in
    let x = digit_is (n / 10 % 10) (omega arith) in
    let y = digit_is (n % 10) (omega arith) in
    front_digits 2 n (two_digits n) rest refl (rw (a, b) refl) (rw (x, y) (omega arith))

pub four_back : (n : ℕ) (rest : List ℕ) → n < 10_000 → taken_digits 4 (four_digits n ++ rest) ≡ Some (n, rest)
four_back n rest lt =
    let a = digit_yes (n / 100 % 100 / 10 % 10) (omega arith) in
    let b = digit_yes (n / 100 % 100 % 10) (omega arith) in
    let c = digit_yes (n % 100 / 10 % 10) (omega arith) in
    let d = digit_yes (n % 100 % 10) (omega arith) in
    let x = digit_is (n / 100 % 100 / 10 % 10) (omega arith) in
    let y = digit_is (n / 100 % 100 % 10) (omega arith) in
    let z = digit_is (n % 100 / 10 % 10) (omega arith) in
    let w = digit_is (n % 100 % 10) (omega arith) in
    front_digits 4 n (four_digits n) rest refl (rw (a, b, c, d) refl) (rw (x, y, z, w) (omega arith))

-- no digit at the front
abbrev pub is_bare : List ℕ → Bool
is_bare [] = true
is_bare (c ∷ cs) = not (is_ascii_digit c)

abbrev sized : Bool → ℕ
sized b = if b && (false && true) then 2 else 1

sized_is : (b : Bool) → sized b ≡ 1
sized_is true = refl
sized_is false = refl

not_true : (b : Bool) → not b ≡ true → b ≡ false
not_true true h = cc
not_true false h = refl

one_size : (d : ℕ) (rest : List ℕ) → is_bare rest ≡ true → short_size ((48 + d) ∷ rest) ≡ 1
one_size d [] bare = refl
one_size d (c ∷ rest) bare =
    let no_digit : is_ascii_digit c ≡ false = not_true (is_ascii_digit c) bare in
    let fits : nat_le 2 (length ((48 + d) ∷ c ∷ rest)) ≡ true = le-leb 2 (length ((48 + d) ∷ c ∷ rest)) (omega arith) in
    rw (fits, no_digit) (sized_is (is_ascii_digit (48 + d)))

pub short_back : (n : ℕ) (rest : List ℕ) → n < 100 → is_bare rest ≡ true → taken_digits (short_size (decimal n ++ rest)) (decimal n ++ rest) ≡ Some (n, rest)
short_back n rest lt bare =
    let all = digits_decimal model n (omega arith) in
    let value = digits_value-decimal model n (omega arith) in
    elim (cases_lt n 10) [
      | inl one ↦
          let text : decimal n ≡ (48 + n) ∷ [] = decimal_digit n one in
          let size : short_size (decimal n ++ rest) ≡ 1 = ap (λ t. short_size (t ++ rest)) text ∙ one_size n rest bare in
          ap (λ k. taken_digits k (decimal n ++ rest)) size ∙ (front_digits 1 n (decimal n) rest (ap length text) all value)
      | inr two ↦
          let step = decimal_step n two (omega arith) in
          let first = decimal_digit (n / 10) (omega arith) in
          let text : decimal n ≡ (48 + n / 10) ∷ (48 + n % 10) ∷ [] = step ∙ ap (λ t. t ++ (48 + n % 10) ∷ []) first in
          let size : short_size (decimal n ++ rest) ≡ 2 = ap (λ t. short_size (t ++ rest)) text ∙ two_size (n / 10) (n % 10) rest (omega arith) (omega arith) in
          ap (λ k. taken_digits k (decimal n ++ rest)) size ∙ (front_digits 2 n (decimal n) rest (ap length text) all value)
    ]
  where
    two_size : (d e : ℕ) (rest : List ℕ) → d < 10 → e < 10 → short_size ((48 + d) ∷ (48 + e) ∷ rest) ≡ 2
    two_size d e rest a b =
        let fits : nat_le 2 (length ((48 + d) ∷ (48 + e) ∷ rest)) ≡ true = le-leb 2 (length ((48 + d) ∷ (48 + e) ∷ rest)) (omega arith) in
        rw (fits, digit_yes d a, digit_yes e b) refl

pub month_back : (m : ℕ) (rest : List ℕ) → 1 ≤ m → m ≤ 12 → taken_month (slice_index_or month_names (m - 1) [] ++ rest) ≡ Some (m, rest)
month_back zero rest low high = absurd (omega arith)
month_back (suc zero) rest low high = refl
month_back (suc (suc zero)) rest low high = refl
month_back (suc (suc (suc zero))) rest low high = refl
month_back (suc (suc (suc (suc zero)))) rest low high = refl
month_back (suc (suc (suc (suc (suc zero))))) rest low high = refl
month_back (suc (suc (suc (suc (suc (suc zero)))))) rest low high = refl
month_back (suc (suc (suc (suc (suc (suc (suc zero))))))) rest low high = refl
month_back (suc (suc (suc (suc (suc (suc (suc (suc zero)))))))) rest low high = refl
month_back (suc (suc (suc (suc (suc (suc (suc (suc (suc zero))))))))) rest low high = refl
month_back (suc (suc (suc (suc (suc (suc (suc (suc (suc (suc zero)))))))))) rest low high = refl
month_back (suc (suc (suc (suc (suc (suc (suc (suc (suc (suc (suc zero))))))))))) rest low high = refl
month_back (suc (suc (suc (suc (suc (suc (suc (suc (suc (suc (suc (suc zero)))))))))))) rest low high = refl
month_back (suc (suc (suc (suc (suc (suc (suc (suc (suc (suc (suc (suc (suc m))))))))))))) rest low high = absurd (omega arith)

pub other_back : (bytes rest : List ℕ) → starts_with nat_eq (bytes ++ rest) bytes ≡ true
other_back bytes rest = rw take-append_seam (nat_list_eq_equiv.refl bytes)
