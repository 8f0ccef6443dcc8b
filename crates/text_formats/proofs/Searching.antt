-- A search tells whether a byte is there.
use Rattle.std.proofs.Common.{◌≡◌, ℕ, suc, ◌<◌, Bool, false, List, [], ◌∷◌, length, get_or, Option, Some, None, is_some, sym, refl, arith}
use Rattle.std.proofs.lemmas.Bool.{false_from_ne_true}
use Rattle.std.proofs.lemmas.List.Folds.{list_any_at}
use Rattle.std.specs.List.{list_any}
use Rattle.memchr.specs.Find.{IsFirstByte}

any_nowhere : (test : ℕ → Bool) (xs : List ℕ) → ((k : ℕ) → k < length xs → test (get_or xs k 0) ≡ false) → list_any test xs ≡ false
any_nowhere test [] none = refl
any_nowhere test (x ∷ xs) none = let here : test x ≡ false = none 0 (omega arith) in rw here (any_nowhere test xs (λ k lt. none (suc k) (omega arith)))

pub any_from_first : (test : ℕ → Bool) (xs : List ℕ) (r : Option ℕ) → IsFirstByte test xs r → is_some r ≡ list_any test xs
any_from_first test xs None nowhere = sym (any_nowhere test xs (λ k lt. false_from_ne_true _ (nowhere k (omega arith) lt)))
any_from_first test xs (Some at) first = sym (list_any_at test xs at 0 first.0.high first.1)
