-- The parting of a plan's columns.
use Rattle.std.proofs.Common.{◌≡◌, ℕ, ◌<◌, ◌≤◌, Bool, true, false, ◌||◌, List, length, get_or, Option, inl, inr, refl, arith}
use Rattle.std.proofs.lemmas.Bool.{cases_Bool}
use Rattle.query_types.specs.Terms.{Term}
use Rattle.query_types.specs.Conditions.{Filter}
use Rattle.query_types.specs.Planned.{Covers, is_mentioned}
use Rattle.plan_rows.specs.Picks.{Parted, is_among}

-- the columns before a place that are used are parted
pub record PartedTo (used : List Bool) (at : ℕ) (asked rest : List ℕ) (condition : Option Filter) : Type 0 where
  pub mentioned : (k : ℕ) → k < at → get_or used k false ≡ true → is_mentioned k condition ≡ true → is_among k asked ≡ true
  pub other : (k : ℕ) → k < at → get_or used k false ≡ true → is_mentioned k condition ≡ false → is_among k rest ≡ true

or_other : (a b : Bool) → (a ≡ false → b ≡ true) → (a || b) ≡ true
or_other true b is = refl
or_other false b is = is refl

pub parted_all : (used : List Bool) (at : ℕ) (asked rest : List ℕ) (items : List Term) (condition : Option Filter) → length used ≤ at → Covers used items condition → PartedTo used at asked rest condition
    → Parted (length used) asked rest items condition
parted_all used at asked rest items condition all covers parted = record {
  mentioned = λ k within h. parted.mentioned k (omega arith) (covers.mentioned k within h) h;
  item = λ k within h. elim (cases_Bool (is_mentioned k condition)) [
    | inl asks ↦ or_left (is_among k asked) (is_among k rest) (parted.mentioned k (omega arith) (covers.item k within h) asks)
    | inr waits ↦ or_right (is_among k asked) (is_among k rest) (parted.other k (omega arith) (covers.item k within h) waits)
  ];
}
  where
    or_left : (a b : Bool) → a ≡ true → (a || b) ≡ true
    or_left a b is = rw is refl

    or_right : (a b : Bool) → b ≡ true → (a || b) ≡ true
    or_right true b is = refl
    or_right false b is = is
