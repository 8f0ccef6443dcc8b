-- Values that the order calls equal are the same.
use Rattle.std.proofs.Common.{◌≡◌, Bool, true, ℤ, ◌<ℤ◌, ap, sym, subst, refl, ◌∙◌, List, ℕ}
use Rattle.std.specs.declared.cmp.Ordering.{Ordering}
use Rattle.std.specs.declared.cmp.Ordering.TheVariants.{Less, Equal, Greater}
use Rattle.std.specs.Bool.{Decides}
use Rattle.std.specs.Ordering.{nat_cmp, int_cmp, ordering_then, ordering_reverse, is_eq, MatchOrdering}
use Rattle.std.specs.Cmp.{int_ranks}
use Rattle.std.specs.Cmp.Lexicographic.{slice_cmp, texts_ties, same_text}
use Rattle.lp_values.specs.contracts.value.ValueOrd.TheImpl.Laws.{matches_eq-law}
use Rattle.lp_values.specs.contracts.value.ValuePartialEq.TheImpl.{eq-value}
use Rattle.lp_values.specs.declared.part.Part.{Part}
use Rattle.lp_values.specs.declared.part.Part.TheVariants as P
use Rattle.lp_values.specs.declared.value.Value.{Value}
use Rattle.lp_values.specs.declared.value.Value.TheVariants.{Null, Int, Real, Text, Stamp}
use Rattle.lp_values.specs.Order.{order_of, part_place}
use Rattle.lp_values.proofs.OrderLemmas.{values_total, derived}
use Rattle.lp_values.proofs.StampLemmas.{stamps_same}

ints_same : (x y : ℤ) → int_cmp x y ≡ Equal → x ≡ y
ints_same x y h = subst (λ (o : Ordering). MatchOrdering o (x <ℤ y) (x ≡ y) (y <ℤ x)) h (int_ranks x y)

parts_same : (p q : Part) → nat_cmp (part_place p) (part_place q) ≡ Equal → p ≡ q
parts_same P.Date P.Date h = refl
parts_same P.Date P.Time h = cc
parts_same P.Date P.Both h = cc
parts_same P.Time P.Date h = cc
parts_same P.Time P.Time h = refl
parts_same P.Time P.Both h = cc
parts_same P.Both P.Date h = cc
parts_same P.Both P.Time h = cc
parts_same P.Both P.Both h = refl

first_equal : (a b : Ordering) → ordering_then a b ≡ Equal → a ≡ Equal
first_equal Less b h = h
first_equal Equal b h = refl
first_equal Greater b h = h

second_equal : (a b : Ordering) → ordering_then a b ≡ Equal → b ≡ Equal
second_equal Less b h = cc
second_equal Equal b h = h
second_equal Greater b h = cc

texts_same : (xs ys : List ℕ) → slice_cmp nat_cmp xs ys ≡ Equal → xs ≡ ys
texts_same xs ys h = same_text xs ys (sym (texts_ties xs ys ∙ ap is_eq h))

pub order_same : (x y : Value) → order_of x y ≡ Equal → x ≡ y
order_same (Int a) (Int b) h = ap Int (ints_same a b h)
order_same (Real a) (Real b) h = ap (λ (z : ℤ). Real (record { millionths = z })) (ints_same a.millionths b.millionths h)
order_same (Text a) (Text b) h = ap Text (texts_same a b h)
order_same (Stamp a) (Stamp b) h =
    let first = int_cmp a.seconds b.seconds in
    let second = nat_cmp (part_place a.part) (part_place b.part) in
    ap Stamp (stamps_same a b (ints_same a.seconds b.seconds (first_equal first second h)) (parts_same a.part b.part (second_equal first second h)))
order_same Null Null h = refl
order_same x y h = cc

unmoved : (o : Ordering) → o ≡ ordering_reverse o → o ≡ Equal
unmoved Less h = cc
unmoved Equal h = refl
unmoved Greater h = cc

pub same_order : (x y : Value) → x ≡ y → order_of x y ≡ Equal
same_order x y e = subst (λ (v : Value). order_of x v ≡ Equal) e (unmoved (order_of x x) (values_total.antisymm x x))

equal_only : (o : Ordering) → is_eq o ≡ true → o ≡ Equal
equal_only Less h = cc
equal_only Equal h = refl
equal_only Greater h = cc

-- the derived test tells the same
pub values_same : (x y : Value) → (eq-value.it x y ≡ true → x ≡ y) × (x ≡ y → eq-value.it x y ≡ true)
values_same x y =
    let tells : eq-value.it x y ≡ is_eq (order_of x y) = matches_eq-law x y ∙ ap is_eq (derived x y) in
    (λ h. order_same x y (equal_only (order_of x y) (sym tells ∙ h)), λ e. tells ∙ ap is_eq (same_order x y e))

pub values_told : (x y : Value) (told : Bool) → told ≡ eq-value.it x y → Decides told (x ≡ y)
values_told x y told e = let is = values_same x y in (λ h. is.0 (sym e ∙ h), λ p. e ∙ is.1 p)
