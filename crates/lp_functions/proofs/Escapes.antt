-- The set of the crate escapes what the rule escapes.
use Rattle.std.proofs.Common.{◌≡◌, ℕ, zero, suc, ◌<◌, ◌≤◌, Bool, true, false, not, ◌&&◌, List, [], ◌∷◌, ◌++◌, refl, ap, inl, inr, arith}
use Rattle.std.proofs.lemmas.Bool.{cases_Bool, cases_lt, and_parts}
use Rattle.std.proofs.lemmas.Bool.Decides.{nat_tests}
use Rattle.std.specs.Char.{is_ascii}
use Rattle.percent_encoding.specs.Percent.{percent_encode, percent_encode_byte, encode_byte}
use Rattle.percent_encoding.specs.AsciiSet.{should_percent_encode}
use Rattle.lp_functions.specs.Urls.{is_plain, escaped_byte, escaped}
use Rattle.lp_functions.specs.declared.urls.TheConstants.{ESCAPED}

same : Bool → Bool → Bool
same true b = b
same false b = not b

agrees_below : ℕ → Bool
agrees_below zero = true
agrees_below (suc n) = same (should_percent_encode ESCAPED n) (not (is_plain n)) && agrees_below n

same_is : (a b : Bool) → same a b ≡ true → a ≡ b
unfolding same
same_is true true e = refl
same_is true false e = cc e
same_is false true e = cc e
same_is false false e = refl

at : (n b : ℕ) → agrees_below n ≡ true → b < n → should_percent_encode ESCAPED b ≡ not (is_plain b)
unfolding agrees_below
at zero b e lt = absurd (omega arith)
at (suc n) b e lt =
    let both : (same (should_percent_encode ESCAPED n) (not (is_plain n)) ≡ true) × (agrees_below n ≡ true) = and_parts _ _ e in
    elim (cases_lt b n) [
      | inl below ↦ at n b both.1 below
      | inr here ↦ let is : b ≡ n = omega arith in rw is (same_is _ _ both.0)
    ]

table : agrees_below 128 ≡ true
unfolding agrees_below same should_percent_encode
table = refl

outside : (b : ℕ) → 128 ≤ b → is_ascii b ≡ false
outside b above = grind (arith, nat_tests)

escaped_outside : (b : ℕ) → 128 ≤ b → is_plain b ≡ false
escaped_outside b above = grind (arith, nat_tests)

pub escapes : (b : ℕ) → should_percent_encode ESCAPED b ≡ not (is_plain b)
unfolding should_percent_encode
escapes b = elim (cases_lt b 128) [
  | inl below ↦ at 128 b table below
  | inr above ↦ rw (outside b above, escaped_outside b above) refl
]

byte_same : (b : ℕ) → encode_byte ESCAPED b ≡ escaped_byte b
unfolding percent_encode_byte
byte_same b = elim (cases_Bool (is_plain b)) [
  | inl plain ↦ rw (escapes b, plain) refl
  | inr not_plain ↦ rw (escapes b, not_plain) refl
]

pub percent_encode_is : (bytes : List ℕ) → percent_encode ESCAPED bytes ≡ escaped bytes
unfolding percent_encode escaped
percent_encode_is [] = refl
percent_encode_is (b ∷ bs) = rw (byte_same b) (ap (λ (l : List ℕ). escaped_byte b ++ l) (percent_encode_is bs))
