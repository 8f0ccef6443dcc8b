-- The order of values is total.
use Rattle.std.proofs.Common.{◌≡◌, sym, ◌∙◌, ap, rules}
use Rattle.std.specs.declared.cmp.Ordering.{Ordering}
use Rattle.std.specs.Ordering.{ordering_reverse}
use Rattle.std.specs.Cmp.{IsTotalOrder}
use Rattle.lp_values.specs.contracts.value.ValueOrd.TheImpl.{cmp-value}
use Rattle.lp_values.specs.contracts.value.ValueOrd.TheImpl.Laws.{total-law}
use Rattle.lp_values.specs.declared.value.Value.{Value}
use Rattle.lp_values.specs.Order.{order_of}

total_alike : {K : Type 0} (R S : K → K → Ordering) → ((x y : K) → R x y ≡ S x y) → IsTotalOrder R → IsTotalOrder S
total_alike R S same t = record {
  antisymm = λ x y. sym (same x y) ∙ (t.antisymm x y ∙ ap ordering_reverse (same y x));
  trans = λ x y z h g. sym (same x z) ∙ t.trans x y z (same x y ∙ h) (same y z ∙ g);
  congr = λ x y z h. sym (same x z) ∙ (t.congr x y z (same x y ∙ h) ∙ same y z);
}

pub derived : (x y : Value) → cmp-value.it x y ≡ order_of x y
derived x y = search rules

pub values_total : IsTotalOrder order_of
values_total = total_alike cmp-value.it order_of derived total-law
