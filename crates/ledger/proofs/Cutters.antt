-- Words at the front of a text.
use Rattle.std.proofs.Common.{◌≡◌, ℕ, ◌+◌, ◌≤◌, List, [], ◌∷◌, ◌++◌, length, take, drop, get_or, sym, ◌∙◌, ap, arith, true, false, Option, Some, None}
use Rattle.std.specs.Borrow.{Bor}
use Rattle.std.specs.Option.{MatchOption}
use Rattle.std.specs.Str.{bytes_eq}
use Rattle.std.proofs.lemmas.List.{take-append-drop}
use Rattle.std.proofs.Math.Seq.{take-append_seam}
use Rattle.std.proofs.lemmas.Slice.Eq.{bytes_eq-Decides}
use Rattle.std.proofs.lemmas.Bool.Decides.{not_from_Decides}
use Rattle.ledger.specs.Cutting.{CutsWord}

pub cuts_word : (text word : List ℕ) (r : Option (Bor (List ℕ))) → MatchOption r (bytes_eq (take (length word) text) word ≡ false) (λ x. (bytes_eq (take (length word) text) word ≡ true) × (x.now ≡ drop (length word) text) × (length x.now + length word ≡ length text)) → CutsWord text word r
cuts_word text word None differs = λ more e. not_from_Decides _ (bytes_eq-Decides (take (length word) text) word) differs (ap (take (length word)) e ∙ take-append_seam word more)
cuts_word text word (Some x) found =
    let front : take (length word) text ≡ word = (bytes_eq-Decides (take (length word) text) word).0 found.0 in
    sym (take-append-drop (length word) text) ∙ ap (λ (t : List ℕ). t ++ drop (length word) text) front ∙ ap (λ (t : List ℕ). word ++ t) (sym found.1)

pub two_bytes : (text : List ℕ) → 2 ≤ length text → get_or text 1 0 ≡ 32 → text ≡ get_or text 0 0 ∷ (32 ∷ drop 2 text)
two_bytes [] long second = absurd (omega (arith, long))
two_bytes (a ∷ []) long second = absurd (omega (arith, long))
two_bytes (a ∷ b ∷ rest) long second = ap (λ (n : ℕ). a ∷ (n ∷ rest)) second
