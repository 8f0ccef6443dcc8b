-- Where a field ends.
use Rattle.std.specs.Char.{to_ascii_lowercase}
use Rattle.std.specs.Str.{IsCharBoundary, IsUtf8}
use Rattle.std.proofs.Common.{◌≡◌, ℕ, zero, suc, ◌<◌, cond, Bool, true, false, List, [], ◌∷◌, length, take, map, get_or, codes, Option, Some, None, unwrap_or, refl, sym, ◌∙◌, ap, subst, arith}
use Rattle.std.proofs.lemmas.Bool.Decides.{nat_tests}
use Rattle.query_lexer.specs.Standing.{begins_as, field_length}
use Rattle.query_lexer.proofs.Finding.{pointwise_same}
use Rattle.query_lexer.proofs.Boundaries.{behind_ascii}

small_is_ascii : (b : ℕ) → to_ascii_lowercase b < 128 → b < 128
small_is_ascii b lt = grind (arith, nat_tests)

small_at : (all : List ℕ) (n b : ℕ) → get_or (take (suc n) (map to_ascii_lowercase all)) n 0 ≡ b → 0 < b → b < 128 → (n < length all) × (get_or all n 0 < 128)
small_at [] n b is more less = absurd (omega arith)
small_at (x ∷ xs) zero b is more less = (omega arith, small_is_ascii x (omega arith))
small_at (x ∷ xs) (suc n) b is more less = let p = small_at xs n b is more less in (omega (arith, p.0), p.1)

behind_name : (name all : List ℕ) (n b : ℕ) → IsUtf8 all → begins_as name all ≡ true → length name ≡ suc n → get_or name n 0 ≡ b → 0 < b → b < 128 → IsCharBoundary all (suc n)
behind_name name all n b utf8 begins size last more less =
    let front : name ≡ take (length name) (map to_ascii_lowercase all) = pointwise_same name (take (length name) (map to_ascii_lowercase all)) begins in
    let at : get_or (take (suc n) (map to_ascii_lowercase all)) n 0 ≡ b = ap (λ (m : ℕ). get_or (take m (map to_ascii_lowercase all)) n 0) (sym size) ∙ ap (λ (x : List ℕ). get_or x n 0) (sym front) ∙ last in
    let p = small_at all n b at more less in
    behind_ascii all n utf8 p.0 p.1

some_is : {m n : ℕ} → Some m ≡ Some n → m ≡ n
some_is e = ap (λ (o : Option ℕ). unwrap_or o 0) e

field_by : (all : List ℕ) (n : ℕ) (a b c : Bool) → IsUtf8 all → begins_as (codes "cs(user-agent)") all ≡ a → begins_as (codes "cs(referer)") all ≡ b → begins_as (codes "cs(cookie)") all ≡ c
    → cond a (Some 14) (cond b (Some 11) (cond c (Some 10) None)) ≡ Some n → (0 < n) × IsCharBoundary all n
field_by all n true b c utf8 one two three is = subst (λ (m : ℕ). (0 < m) × IsCharBoundary all m) (some_is is) (omega arith, behind_name (codes "cs(user-agent)") all 13 41 utf8 one refl refl (omega arith) (omega arith))
field_by all n false true c utf8 one two three is = subst (λ (m : ℕ). (0 < m) × IsCharBoundary all m) (some_is is) (omega arith, behind_name (codes "cs(referer)") all 10 41 utf8 two refl refl (omega arith) (omega arith))
field_by all n false false true utf8 one two three is = subst (λ (m : ℕ). (0 < m) × IsCharBoundary all m) (some_is is) (omega arith, behind_name (codes "cs(cookie)") all 9 41 utf8 three refl refl (omega arith) (omega arith))
field_by all n false false false utf8 one two three is = cc

pub field_advance : (all : List ℕ) (n : ℕ) → IsUtf8 all → field_length all ≡ Some n → (0 < n) × IsCharBoundary all n
field_advance all n utf8 is = field_by all n _ _ _ utf8 refl refl refl is

pub field_boundary : (all : List ℕ) (n : ℕ) → IsUtf8 all → field_length all ≡ Some n → IsCharBoundary all n
field_boundary all n utf8 is = (field_advance all n utf8 is).1
