-- Which fields hold a byte that breaks them.
use Rattle.std.proofs.Common.{◌≡◌, ℕ, Bool, true, false, ◌||◌, List, [], ◌∷◌, map, ap, ◌∙◌, refl}
use Rattle.std.specs.List.{list_any}
use Rattle.memchr.specs.Find.{is_byte, is_byte3}
use Rattle.text_formats.specs.declared.style.Style.{Style}
use Rattle.text_formats.specs.Styles.{breaks, kept_byte}

four : (a b c d : Bool) → (a || b) || (c || d) ≡ (a || c) || (b || d)
four true b c d = refl
four false true true d = refl
four false true false d = refl
four false false true d = refl
four false false false d = refl

either : (p q : ℕ → Bool) (xs : List ℕ) → list_any (λ x. p x || q x) xs ≡ (list_any p xs || list_any q xs)
either p q [] = refl
either p q (x ∷ xs) = ap (λ t. (p x || q x) || t) (either p q xs) ∙ four (p x) (q x) (list_any p xs) (list_any q xs)

-- a mark or a CR is a breaking byte
pub breaks_either : (style : Style) (xs : List ℕ) → list_any (breaks style) xs ≡ (list_any (is_byte3 style.separator style.blank 10) xs || list_any (is_byte 13) xs)
breaks_either style xs = either (is_byte3 style.separator style.blank 10) (is_byte 13) xs

either_false : (a b : Bool) → (a || b) ≡ false → (a ≡ false) × (b ≡ false)
either_false true b is = absurd (cc)
either_false false b is = (refl, is)

-- a field without one stays
pub kept_whole : (style : Style) (xs : List ℕ) → list_any (breaks style) xs ≡ false → map (kept_byte style) xs ≡ xs
kept_whole style [] none = refl
kept_whole style (x ∷ xs) none =
    let parts = either_false (breaks style x) (list_any (breaks style) xs) none in
    rw parts.0 (ap (λ t. x ∷ t) (kept_whole style xs parts.1))
