-- The facts of a list stay where each of its values is taken once.
use Rattle.std.proofs.Common.{◌≡◌, ◌≢◌, ℕ, ℤ, pos, ◌*ℤ◌, Bool, true, false, ◌||◌, List, [], ◌∷◌, ◌++◌, fold, nat_eq, refl, sym, ◌∙◌, ap, inl, inr, subst}
use Rattle.std.proofs.lemmas.Bool.{cases_Bool}
use Rattle.std.proofs.lemmas.List.{append-nil}
use Rattle.std.proofs.lemmas.List.Folds.{list_any-append}
use Rattle.std.proofs.lemmas.List.Sums.{fold-append}
use Rattle.std.specs.List.{list_any}
use Rattle.std.specs.Ordering.{int_eq}
use Rattle.std.specs.Cmp.{signed_Decides}
use Rattle.std.specs.Cmp.Lexicographic.{pointwise, bytes_decides}
use Rattle.indexmap.specs.IndexSet.{insert_key}
use Rattle.in_set.specs.Facts.{Facts, facts_of, no_facts, with_value}
use Rattle.lp_values.specs.declared.value.Value.{Value}
use Rattle.lp_values.specs.declared.value.Value.TheVariants.{Null, Int, Real, Text, Stamp}
use Rattle.order_top.specs.Lists.{first_occurrences}
use Rattle.order_top.proofs.Firsts.{firsts_more}
use Rattle.list_run.specs.declared.keep.Keep.{Keep}
use Rattle.list_run.specs.declared.keep.Keep.TheVariants as K
use Rattle.list_run.specs.Gathering.{Remembered, kept_more, remembered_of, remembering}
use Rattle.list_run.specs.Keeping.{kept_values, same_value}
use Rattle.list_run.proofs.Same.{value_itself, value_told}

-- ---- a set of keys

module _ {X : Type 0} (eq : X → X → Bool) where
  pub known : (ks : List X) (k : X) → list_any (eq k) ks ≡ true → insert_key eq ks k ≡ ks
  known ks k e = rw e refl

  pub added : (ks : List X) (k : X) → list_any (eq k) ks ≡ false → insert_key eq ks k ≡ ks ++ k ∷ []
  added ks k e = rw e refl

  -- what is there stays there
  any_stays : (p : X → Bool) (ks : List X) (y : X) → list_any p ks ≡ true → list_any p (insert_key eq ks y) ≡ true
  any_stays p ks y e = elim (cases_Bool (list_any (eq y) ks)) [
    | inl holds ↦ ap (list_any p) (known ks y holds) ∙ e
    | inr fails ↦ ap (list_any p) (added ks y fails) ∙ (list_any-append p ks (y ∷ []) ∙ ap (λ (b : Bool). b || list_any p (y ∷ [])) e)
  ]

  or_true : (a : Bool) → (a || (true || false)) ≡ true
  or_true true = refl
  or_true false = refl

  -- one that was put is there
  any_put : (ks : List X) (y : X) → eq y y ≡ true → list_any (eq y) (insert_key eq ks y) ≡ true
  any_put ks y itself = elim (cases_Bool (list_any (eq y) ks)) [
    | inl holds ↦ ap (list_any (eq y)) (known ks y holds) ∙ holds
    | inr fails ↦ ap (list_any (eq y)) (added ks y fails) ∙ (list_any-append (eq y) ks (y ∷ []) ∙ (ap (λ (b : Bool). list_any (eq y) ks || (b || false)) itself ∙ or_true (list_any (eq y) ks)))
  ]

-- ---- facts

-- facts tell of a value
abbrev has : Facts → Value → Bool
has facts Null = facts.nulls
has facts (Int number) = list_any (int_eq (number *ℤ pos 1_000_000)) facts.numbers
has facts (Real number) = list_any (int_eq number.millionths) facts.numbers
has facts (Text text) = list_any (pointwise nat_eq text) facts.texts
has facts (Stamp stamp) = list_any (int_eq stamp.seconds) facts.stamps

int_itself : (x : ℤ) → int_eq x x ≡ true
int_itself x = (signed_Decides x x).1 refl

-- then it changes nothing
told_before : (facts : Facts) (value : Value) → has facts value ≡ true → with_value facts value ≡ facts
told_before facts Null e = λ i. record facts { nulls = sym e i }
told_before facts (Int number) e = λ i. record facts { numbers = known int_eq facts.numbers (number *ℤ pos 1_000_000) e i }
told_before facts (Real number) e = λ i. record facts { numbers = known int_eq facts.numbers number.millionths e i }
told_before facts (Text text) e = λ i. record facts { texts = known (pointwise nat_eq) facts.texts text e i }
told_before facts (Stamp stamp) e = λ i. record facts { stamps = known int_eq facts.stamps stamp.seconds e i }

has_taken : (facts : Facts) (value : Value) → has (with_value facts value) value ≡ true
has_taken facts Null = refl
has_taken facts (Int number) = any_put int_eq facts.numbers (number *ℤ pos 1_000_000) (int_itself (number *ℤ pos 1_000_000))
has_taken facts (Real number) = any_put int_eq facts.numbers number.millionths (int_itself number.millionths)
has_taken facts (Text text) = any_put (pointwise nat_eq) facts.texts text ((bytes_decides text text).1 refl)
has_taken facts (Stamp stamp) = any_put int_eq facts.stamps stamp.seconds (int_itself stamp.seconds)

nulls_stay : (facts : Facts) (value : Value) → facts.nulls ≡ true → (with_value facts value).nulls ≡ true
nulls_stay facts Null e = refl
nulls_stay facts (Int number) e = e
nulls_stay facts (Real number) e = e
nulls_stay facts (Text text) e = e
nulls_stay facts (Stamp stamp) e = e

numbers_stay : (p : ℤ → Bool) (facts : Facts) (value : Value) → list_any p facts.numbers ≡ true → list_any p (with_value facts value).numbers ≡ true
numbers_stay p facts Null e = e
numbers_stay p facts (Int number) e = any_stays int_eq p facts.numbers (number *ℤ pos 1_000_000) e
numbers_stay p facts (Real number) e = any_stays int_eq p facts.numbers number.millionths e
numbers_stay p facts (Text text) e = e
numbers_stay p facts (Stamp stamp) e = e

texts_stay : (p : List ℕ → Bool) (facts : Facts) (value : Value) → list_any p facts.texts ≡ true → list_any p (with_value facts value).texts ≡ true
texts_stay p facts Null e = e
texts_stay p facts (Int number) e = e
texts_stay p facts (Real number) e = e
texts_stay p facts (Text text) e = any_stays (pointwise nat_eq) p facts.texts text e
texts_stay p facts (Stamp stamp) e = e

stamps_stay : (p : ℤ → Bool) (facts : Facts) (value : Value) → list_any p facts.stamps ≡ true → list_any p (with_value facts value).stamps ≡ true
stamps_stay p facts Null e = e
stamps_stay p facts (Int number) e = e
stamps_stay p facts (Real number) e = e
stamps_stay p facts (Text text) e = e
stamps_stay p facts (Stamp stamp) e = any_stays int_eq p facts.stamps stamp.seconds e

-- what they tell of they tell of for good
has_more : (facts : Facts) (value other : Value) → has facts value ≡ true → has (with_value facts other) value ≡ true
has_more facts Null other e = nulls_stay facts other e
has_more facts (Int number) other e = numbers_stay (int_eq (number *ℤ pos 1_000_000)) facts other e
has_more facts (Real number) other e = numbers_stay (int_eq number.millionths) facts other e
has_more facts (Text text) other e = texts_stay (pointwise nat_eq text) facts other e
has_more facts (Stamp stamp) other e = stamps_stay (int_eq stamp.seconds) facts other e

has_all : (facts : Facts) (values : List Value) (value : Value) → has facts value ≡ true → has (fold with_value facts values) value ≡ true
has_all facts [] value e = e
has_all facts (x ∷ xs) value e = has_all (with_value facts x) xs value (has_more facts value x e)

-- the facts of a list tell of each of its values
has_each : (facts : Facts) (values : List Value) (value : Value) → list_any (same_value value) values ≡ true → has (fold with_value facts values) value ≡ true
has_each facts [] value e = absurd cc
has_each facts (x ∷ xs) value e = elim (cases_Bool (same_value value x)) [
  | inl holds ↦ has_all (with_value facts x) xs value (subst (λ (y : Value). has (with_value facts y) value ≡ true) (value_told value x holds) (has_taken facts value))
  | inr fails ↦ has_each (with_value facts x) xs value (sym (ap (λ (b : Bool). b || list_any (same_value value) xs) fails) ∙ e)
]

-- ---- first occurrences

abbrev firsts : List Value → List Value
firsts values = first_occurrences same_value values

facts_more : (values : List Value) (value : Value) → facts_of (values ++ value ∷ []) ≡ with_value (facts_of values) value
facts_more values value = fold-append with_value no_facts values (value ∷ [])

-- one value more, which is put among the first occurrences where it isn't there
put_one : (list : List Value) (value : Value) → facts_of (insert_key same_value list value) ≡ with_value (facts_of list) value
put_one list value = elim (cases_Bool (list_any (same_value value) list)) [
  | inl holds ↦ ap facts_of (known same_value list value holds) ∙ sym (told_before (facts_of list) value (has_each no_facts list value holds))
  | inr fails ↦ ap facts_of (added same_value list value fails) ∙ facts_more list value
]

alike_one : (values : List Value) (value : Value) → facts_of (firsts values) ≡ facts_of values → facts_of (firsts (values ++ value ∷ [])) ≡ facts_of (values ++ value ∷ [])
alike_one values value so =
    ap facts_of (firsts_more same_value value_itself value_told values value)
    ∙ (put_one (firsts values) value ∙ (ap (λ (facts : Facts). with_value facts value) so ∙ sym (facts_more values value)))

snoc_append : (xs : List Value) (y : Value) (ys : List Value) → (xs ++ y ∷ []) ++ ys ≡ xs ++ y ∷ ys
snoc_append [] y ys = refl
snoc_append (x ∷ xs) y ys = ap (λ (l : List Value). x ∷ l) (snoc_append xs y ys)

alike_all : (front back : List Value) → facts_of (firsts front) ≡ facts_of front → facts_of (firsts (front ++ back)) ≡ facts_of (front ++ back)
alike_all front [] so = subst (λ (l : List Value). facts_of (firsts l) ≡ facts_of l) (sym (append-nil front)) so
alike_all front (x ∷ xs) so = subst (λ (l : List Value). facts_of (firsts l) ≡ facts_of l) (snoc_append front x xs) (alike_all (front ++ x ∷ []) xs (alike_one front x so))

-- the list that is kept has the facts of all values
pub kept_alike : (keep : Keep) (values : List Value) → keep ≢ K.Nothing → facts_of (kept_values keep values) ≡ facts_of values
kept_alike K.Nothing values some = absurd (some refl)
kept_alike K.All values some = refl
kept_alike K.Distinct values some = alike_all [] values refl

-- ---- what is gathered

kept_one : (keep : Keep) (values : List Value) (value : Value) → kept_more keep (kept_values keep values) value ≡ kept_values keep (values ++ value ∷ [])
kept_one K.Nothing values value = refl
kept_one K.All values value = refl
kept_one K.Distinct values value = sym (firsts_more same_value value_itself value_told values value)

remembers_one : (keep : Keep) (values : List Value) (value : Value) → remembering (remembered_of keep values) value ≡ remembered_of keep (values ++ value ∷ [])
remembers_one keep values value = λ i. record { facts = sym (facts_more values value) i; keep = keep; list = kept_one keep values value i }

remembers_more : (keep : Keep) (front back : List Value) → fold remembering (remembered_of keep front) back ≡ remembered_of keep (front ++ back)
remembers_more keep front [] = ap (remembered_of keep) (sym (append-nil front))
remembers_more keep front (x ∷ xs) =
    ap (λ (r : Remembered). fold remembering r xs) (remembers_one keep front x)
    ∙ (remembers_more keep (front ++ x ∷ []) xs ∙ ap (remembered_of keep) (snoc_append front x xs))

-- values that come one by one are remembered as their list is
pub remembers : (keep : Keep) (values : List Value) → fold remembering (remembered_of keep []) values ≡ remembered_of keep values
remembers keep values = remembers_more keep [] values
