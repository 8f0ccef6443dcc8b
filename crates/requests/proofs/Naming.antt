-- `file:` before a name.
use Rattle.std.proofs.Common.{◌≡◌, ℕ, ◌<◌, List, [], ◌∷◌, length, take, map, get_or, min, codes, None, refl, sym, ◌∙◌, ap, subst, inl, inr, arith, lit<}
use Rattle.std.specs.Char.{to_ascii_lowercase}
use Rattle.std.specs.Str.{IsUtf8, IsAscii, IsCharBoundary}
use Rattle.std.proofs.Math.ListN.{get_or-map}
use Rattle.std.proofs.lemmas.Bool.{cases_Bool}
use Rattle.std.proofs.lemmas.Bool.Decides.{nat_tests}
use Rattle.std.proofs.lemmas.List.{length-take, length-map}
use Rattle.std.proofs.lemmas.Slice.Eq.{bytes_eq-Decides}
use Rattle.std.proofs.lemmas.Str.{IsCharBoundary-from_take, IsUtf8-from_ascii}
use Rattle.std.proofs.lemmas.Str.Ascii.{IsAscii-nil, IsAscii-cons}
use Rattle.command_words.specs.Texts.{begins_as}
use Rattle.requests.specs.Texts.{file_in}

lower_ascii : (c : ℕ) → to_ascii_lowercase c < 128 → c < 128
lower_ascii c h = grind (arith, nat_tests)

ascii_lowered : (xs : List ℕ) → IsAscii (map to_ascii_lowercase xs) → IsAscii xs
ascii_lowered xs h = λ i. lower_ascii (get_or xs i 0) (subst (λ (c : ℕ). c < 128) (get_or-map to_ascii_lowercase xs i 0) (h i))

file_ascii : IsAscii (map to_ascii_lowercase (codes "file:"))
file_ascii = IsAscii-cons 102 (105 ∷ 108 ∷ 101 ∷ 58 ∷ []) (lit< tt) (IsAscii-cons 105 (108 ∷ 101 ∷ 58 ∷ []) (lit< tt) (IsAscii-cons 108 (101 ∷ 58 ∷ []) (lit< tt) (IsAscii-cons 101 (58 ∷ []) (lit< tt) (IsAscii-cons 58 [] (lit< tt) IsAscii-nil))))

-- a character ends behind `file:`
ends : (word : List ℕ) → IsUtf8 word → map to_ascii_lowercase (take 5 word) ≡ map to_ascii_lowercase (codes "file:") → IsCharBoundary word 5
ends word utf8 same =
    let ascii : IsAscii (take 5 word) = ascii_lowered (take 5 word) (subst IsAscii (sym same) file_ascii) in
    let size : length (take 5 word) ≡ 5 = sym (length-map (take 5 word) to_ascii_lowercase) ∙ ap length same in
    let taken : length (take 5 word) ≡ min 5 (length word) = length-take 5 word in
    IsCharBoundary-from_take word 5 utf8 (omega arith) (IsUtf8-from_ascii (take 5 word) ascii)

-- where no character ends there, the word names no file
pub no_file : (word : List ℕ) → IsUtf8 word → (IsCharBoundary word 5 → ⊥) → file_in word ≡ None
no_file word utf8 none = elim (cases_Bool (begins_as word (codes "file:"))) [
  | inl begins ↦ absurd (none (ends word utf8 ((bytes_eq-Decides _ _).0 begins)))
  | inr other ↦ rw other refl
]
