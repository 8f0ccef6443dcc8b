-- Names that are one.
use Rattle.std.proofs.Common.{◌≡◌, ℕ, Bool, true, false, List, map, length, nat_eq, refl, sym, ap, ◌∙◌, rules, tests}
use Rattle.std.proofs.lemmas.Bool.{false_from_ne_true, false≢true}
use Rattle.std.proofs.lemmas.List.{length-map}
use Rattle.std.specs.Char.{to_ascii_lowercase}
use Rattle.std.specs.Cmp.Lexicographic.{pointwise, same_text}
use Rattle.std.specs.Prelude.{◌↔◌, IsTrue, ◌≢◌}
use Rattle.slot_reading.specs.Names.{is_same_name}

-- names that are one have one spelling in small letters
pub same_spelling : (a b : List ℕ) → is_same_name a b ≡ true → map to_ascii_lowercase a ≡ map to_ascii_lowercase b
unfolding is_same_name
same_spelling a b e = same_text (map to_ascii_lowercase a) (map to_ascii_lowercase b) (sym e)

spelled : (xs ys : List ℕ) → xs ≡ ys → pointwise nat_eq xs ys ≡ true
spelled xs ys e = search (rules, tests)

pub is_same_name-spelled : (a b : List ℕ) → map to_ascii_lowercase a ≡ map to_ascii_lowercase b → is_same_name a b ≡ true
unfolding is_same_name
is_same_name-spelled a b e = spelled (map to_ascii_lowercase a) (map to_ascii_lowercase b) e

-- what a test has told
pub is_same_name-told : (told : Bool) (a b : List ℕ) → (IsTrue told ↔ (map to_ascii_lowercase a ≡ map to_ascii_lowercase b)) → told ≡ is_same_name a b
is_same_name-told true a b tells = sym (is_same_name-spelled a b (tells.0 refl))
is_same_name-told false a b tells = sym (false_from_ne_true (is_same_name a b) (λ e. absurd (false≢true (tells.1 (same_spelling a b e)))))

-- names of other lengths are others
pub other_length : (a b : List ℕ) → length a ≢ length b → is_same_name a b ≡ false
other_length a b other = false_from_ne_true (is_same_name a b) (λ e. other (sym (length-map a to_ascii_lowercase) ∙ (ap length (same_spelling a b e) ∙ length-map b to_ascii_lowercase)))
