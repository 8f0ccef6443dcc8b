-- The derived comparisons of values are those of the definitions.
use Rattle.std.proofs.Common.{◌≡◌, Bool, true, false, refl, ◌∙◌, ap, List, ℕ}
use Rattle.std.specs.declared.cmp.Ordering.{Ordering}
use Rattle.std.specs.Ordering.{is_eq, eq_by_cmp, ordering_reverse}
use Rattle.std.specs.declared.cmp.Ordering.TheVariants.{Less, Equal, Greater}
use Rattle.std.specs.Bool.{Decides}
use Rattle.std.specs.Cmp.{IsTotalOrder, IsStrictWeakOrder}
use Rattle.std.specs.Cmp.Lexicographic.{slice_cmp, pointwise, pointwise_decides, lists_ties}
use Rattle.std.proofs.lemmas.Cmp.{lists_total, back_total}
use Rattle.std.proofs.lemmas.List.MinMax.{ranks_by}
use Rattle.lp_values.specs.contracts.value.ValueOrd.TheImpl.{cmp-value}
use Rattle.lp_values.specs.contracts.value.ValuePartialEq.TheImpl.{eq-value}
use Rattle.lp_values.specs.contracts.value.ValueOrd.TheImpl.Laws.{matches_eq-law}
use Rattle.lp_values.specs.declared.value.Value.{Value}
use Rattle.lp_values.specs.Order.{order_of}
use Rattle.lp_values.proofs.OrderLemmas.{derived, values_total}
use Rattle.lp_values.proofs.SameLemmas.{values_same}
use Rattle.order_top.specs.Finish.{Row, Finish, same_row, keys_at, key_order, row_before, precedes}

pub order_is : cmp-value.it ≡ order_of
order_is = λ i x y. derived x y i

one_same : (x y : Value) → eq-value.it x y ≡ eq_by_cmp order_of x y
one_same x y = matches_eq-law x y ∙ ap is_eq (derived x y)

-- the equality of rows
pub same_is : pointwise eq-value.it ≡ same_row
same_is = λ i a b. lists_ties order_of one_same a b i

pub rows_total : IsTotalOrder (slice_cmp order_of)
rows_total = lists_total values_total

key_total : (descending : Bool) → IsTotalOrder (key_order descending)
key_total false = rows_total
key_total true = back_total rows_total

pub rows_ranked : (finish : Finish) → IsStrictWeakOrder (precedes finish)
rows_ranked finish = ranks_by (key_total finish.descending) (keys_at finish.columns)

unmoved : (o : Ordering) → o ≡ ordering_reverse o → o ≡ Equal
unmoved Less h = cc h
unmoved Equal h = refl
unmoved Greater h = cc h

pub row_itself : (a : Row) → same_row a a ≡ true
row_itself a = ap is_eq (unmoved (slice_cmp order_of a a) (rows_total.antisymm a a))

values_told : (a b : Value) → Decides (eq-value.it a b) (a ≡ b)
values_told a b = values_same a b

pub row_told : (a b : Row) → same_row a b ≡ true → a ≡ b
row_told a b e = (pointwise_decides values_told a b).0 (ap (λ (E : Row → Row → Bool). E a b) same_is ∙ e)

pub rows_before_ranked : (descending : Bool) (columns : List ℕ) → IsStrictWeakOrder (row_before descending columns)
rows_before_ranked descending columns = ranks_by (key_total descending) (keys_at columns)
