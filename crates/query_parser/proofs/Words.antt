-- The class of a word.
use Rattle.std.proofs.Common.{◌≡◌, ℕ, Bool, true, false, List, [], ◌∷◌, map, codes, ◌==◌, ◌↔◌, IsTrue, refl, subst, rules, arith}
use Rattle.std.proofs.lemmas.Bool.{false≢true}
use Rattle.std.specs.Char.{to_ascii_lowercase}
use Rattle.query_tree.specs.Tokens.{same_text, same_word, first_class, class_of_word}

same_self : (a : List ℕ) → same_text a a ≡ true
same_self [] = refl
same_self (b ∷ bs) = let one : (b == b) ≡ true = search (rules, arith) in let two = same_self bs in rw one two

same_is : (a b : List ℕ) → same_text a b ≡ true → a ≡ b
same_is [] [] is = refl
same_is [] (d ∷ ds) is = absurd (false≢true is)
same_is (b ∷ bs) [] is = absurd (false≢true is)
same_is (b ∷ bs) (d ∷ ds) is = grind (arith, same_is bs ds)

decided : (r x : Bool) (A : Type 0) → (IsTrue r ↔ A) → (x ≡ true → A) → (A → x ≡ true) → x ≡ r
decided true x A test to from = from (test.0 refl)
decided false true A test to from = absurd (false≢true (test.1 (to refl)))
decided false false A test to from = refl

pub same_by : (r : Bool) (a b : List ℕ) → (IsTrue r ↔ (map to_ascii_lowercase a ≡ map to_ascii_lowercase b)) → same_word a b ≡ r
same_by r a b test = decided r (same_word a b) (map to_ascii_lowercase a ≡ map to_ascii_lowercase b) test (same_is _ _) (λ is. subst (λ (x : List ℕ). same_text (map to_ascii_lowercase a) x ≡ true) is (same_self (map to_ascii_lowercase a)))

pub classed : (word : List ℕ) (x y z : Bool) → same_word word (codes "COUNT") ≡ x → same_word word (codes "PROPCOUNT") ≡ y → same_word word (codes "TIMESTAMP") ≡ z → class_of_word word ≡ first_class x y z
unfolding class_of_word
classed word x y z one two three = rw (one, two, three) refl
