-- The columns that are told as used.
use Rattle.std.proofs.Common.{◌≡◌, ℕ, zero, suc, ◌+◌, ◌<◌, Bool, true, false, ◌||◌, List, [], ◌∷◌, length, get_or, Option, refl, ◌∙◌, ap, subst, arith}
use Rattle.query_types.specs.Terms.{Term, any_has_column}
use Rattle.query_types.specs.Conditions.{Filter}
use Rattle.query_types.specs.Planned.{Covers, is_mentioned, used_from}

pub used_length : {A : Type 0} (at : ℕ) (columns : List A) (aliased items : List Term) (filter : Option Filter) → length (used_from at columns aliased items filter) ≡ length columns
used_length at [] aliased items filter = refl
used_length at (column ∷ columns) aliased items filter = ap suc (used_length (at + 1) columns aliased items filter)

used_at : {A : Type 0} (at : ℕ) (columns : List A) (aliased items : List Term) (filter : Option Filter) (k : ℕ) → k < length columns
    → get_or (used_from at columns aliased items filter) k false ≡ (any_has_column (at + k) aliased || any_has_column (at + k) items || is_mentioned (at + k) filter)
used_at at [] aliased items filter k here = absurd (omega arith)
used_at at (column ∷ columns) aliased items filter zero here =
    let e : at ≡ at + 0 = omega arith in
    ap (λ n. any_has_column n aliased || any_has_column n items || is_mentioned n filter) e
used_at at (column ∷ columns) aliased items filter (suc k) here =
    let e : at + 1 + k ≡ at + suc k = omega arith in
    used_at (at + 1) columns aliased items filter k (omega arith) ∙ ap (λ n. any_has_column n aliased || any_has_column n items || is_mentioned n filter) e

second_of : (a b d : Bool) → b ≡ true → (a || b || d) ≡ true
second_of true b d is = refl
second_of false b d is = rw is refl

third_of : (a b d : Bool) → d ≡ true → (a || b || d) ≡ true
third_of true b d is = refl
third_of false true d is = refl
third_of false false d is = is

zeroed : (p : ℕ → Bool) (k : ℕ) → p k ≡ true → p (0 + k) ≡ true
zeroed p k is = let e : k ≡ 0 + k = omega arith in subst (λ (n : ℕ). p n ≡ true) e is

pub covered : {A : Type 0} (columns : List A) (aliased items : List Term) (filter : Option Filter) → Covers (used_from 0 columns aliased items filter) items filter
covered columns aliased items filter =
    let size = used_length 0 columns aliased items filter in
    record {
      item = λ k here is. used_at 0 columns aliased items filter k (subst (λ (n : ℕ). k < n) size here) ∙ second_of (any_has_column (0 + k) aliased) (any_has_column (0 + k) items) (is_mentioned (0 + k) filter) (zeroed (λ n. any_has_column n items) k is);
      mentioned = λ k here is. used_at 0 columns aliased items filter k (subst (λ (n : ℕ). k < n) size here) ∙ third_of (any_has_column (0 + k) aliased) (any_has_column (0 + k) items) (is_mentioned (0 + k) filter) (zeroed (λ n. is_mentioned n filter) k is);
    }
