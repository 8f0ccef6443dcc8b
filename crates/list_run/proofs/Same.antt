-- The derived equality of values is that of the definitions.
use Rattle.std.proofs.Common.{◌≡◌, Bool, true, false, true≢false, List, ap, sym, ◌∙◌, refl}
use Rattle.std.specs.List.{list_any}
use Rattle.std.specs.Ordering.{is_eq}
use Rattle.indexmap.specs.IndexSet.{insert_key}
use Rattle.lp_values.specs.contracts.value.ValueOrd.TheImpl.Laws.{matches_eq-law}
use Rattle.lp_values.specs.contracts.value.ValuePartialEq.TheImpl.{eq-value}
use Rattle.lp_values.specs.declared.value.Value.{Value}
use Rattle.lp_values.proofs.OrderLemmas.{derived}
use Rattle.lp_values.proofs.SameLemmas.{values_same}
use Rattle.list_run.specs.Gathering.{keep_in}
use Rattle.list_run.specs.Keeping.{same_value}
use Rattle.list_run.specs.declared.gathered.Store.{Store}
use Rattle.list_run.specs.declared.gathered.Store.TheVariants as S
use Rattle.list_run.specs.declared.keep.Keep.TheVariants as K

tells : (x y : Value) → eq-value.it x y ≡ same_value x y
tells x y = matches_eq-law x y ∙ ap is_eq (derived x y)

pub same_is : eq-value.it ≡ same_value
same_is = λ i x y. tells x y i

pub value_itself : (x : Value) → same_value x x ≡ true
value_itself x = sym (tells x x) ∙ (values_same x x).1 refl

pub value_told : (x y : Value) → same_value x y ≡ true → x ≡ y
value_told x y e = (values_same x y).0 (tells x y ∙ e)

-- a value that stands there is put nowhere
pub put_known : (seen : List Value) (value : Value) → list_any (eq-value.it value) seen ≡ true → seen ≡ insert_key same_value seen value
put_known seen value there =
    let e : list_any (same_value value) seen ≡ true = sym (ap (λ (E : Value → Value → Bool). list_any (E value) seen) same_is) ∙ there in
    rw e refl

pub put_same : (seen : List Value) (value copy : Value) → copy ≡ value → insert_key eq-value.it seen copy ≡ insert_key same_value seen value
put_same seen value copy same = ap (λ (E : Value → Value → Bool). insert_key E seen copy) same_is ∙ ap (insert_key same_value seen) same

-- a value that isn't found stands nowhere
pub put_unknown : (seen : List Value) (value : Value) → list_any (eq-value.it value) seen ≡ false → list_any (same_value value) seen ≡ true → ⊥
put_unknown seen value off there = true≢false (sym there ∙ (sym (ap (λ (E : Value → Value → Bool). list_any (E value) seen) same_is) ∙ off))

-- a store of all values doesn't keep each once
pub all_apart : (store : Store) (values : List Value) → store ≡ S.All values → keep_in store ≡ K.Distinct → ⊥
all_apart store values is keeps =
    let apart : K.All ≡ K.Distinct = sym (ap keep_in is) ∙ keeps in
    cc
