-- The tally of joined lists.
use Rattle.std.proofs.Common.{◌≡◌, ◌+◌, ℕ, Bool, true, false, not, cond, ◌&&◌, ◌||◌, if◌then◌else◌, List, [], ◌∷◌, ◌++◌, length, ℤ, ◌+ℤ◌, ap, refl, sym, ◌∙◌, true≢false, arith}
use Rattle.std.proofs.Math.IntN.{+ℤ_assoc, +ℤ_idl, +ℤ_comm, +ℤ_idr}
use Rattle.std.proofs.lemmas.List.{length-append}
use Rattle.std.proofs.lemmas.List.Elements.{filter-append}
use Rattle.std.specs.Ordering.{is_lt, is_gt, ordering_reverse}
use Rattle.std.specs.declared.cmp.Ordering.{Ordering}
use Rattle.std.specs.declared.cmp.Ordering.TheVariants.{Less, Equal, Greater as More}
use Rattle.std.specs.Cmp.{upto}
use Rattle.lp_values.proofs.OrderLemmas.{values_total}
use Rattle.lp_values.proofs.SameLemmas.{order_same}
use Rattle.lp_values.specs.declared.value.Value.{Value}
use Rattle.lp_values.specs.declared.value.Value.TheVariants.{Null}
use Rattle.lp_values.specs.Order.{order_of}
use Rattle.group_rollup.specs.Groups.{exact_sum, number_of, present, is_null, least, greatest, lesser, greater}
use Rattle.group_rollup.specs.Columns.{Tally, tally, tally_one, is_lesser, is_greater}

null_is : (v : Value) → is_null v ≡ true → v ≡ Null
null_is Null e = refl
null_is v e = cc

-- the better of two by a test that is the order's one way round
module _ (better : Value → Value → Bool)
    (less : (a b c : Value) → better c b ≡ true → better b a ≡ true → better c a ≡ true)
    (none : (a b c : Value) → better c b ≡ false → better b a ≡ false → better c a ≡ false)
    (one : (a b : Value) → better b a ≡ true → better a b ≡ false)
    (tie : (a b : Value) → better b a ≡ false → better a b ≡ false → a ≡ b) where
  abbrev pub pick : Value → Value → Value
  pick a b = if is_null a then b else (if is_null b then a else (if better b a then b else a))

  assoc_by : (a b c : Value) (na nb nc cb ba : Bool) → is_null a ≡ na → is_null b ≡ nb → is_null c ≡ nc → better c b ≡ cb → better b a ≡ ba → pick a (pick b c) ≡ pick (pick a b) c
  assoc_by a b c true nb nc cb ba p q r s t = rw p refl
  assoc_by a b c false true nc cb ba p q r s t = rw p rw q rw p refl
  assoc_by a b c false false true cb true p q r s t = rw p rw q rw r rw q rw t rw q refl
  assoc_by a b c false false true cb false p q r s t = rw p rw q rw r rw q rw t rw p refl
  assoc_by a b c false false false true true p q r s t = let u = less a b c s t in rw p rw q rw r rw s rw r rw u rw t rw q rw s refl
  assoc_by a b c false false false true false p q r s t = rw p rw q rw r rw s rw r rw t rw p refl
  assoc_by a b c false false false false true p q r s t = rw p rw q rw r rw s rw q rw t rw q rw s refl
  assoc_by a b c false false false false false p q r s t = let u = none a b c s t in rw p rw q rw r rw s rw q rw t rw p rw u refl

  pub assoc : (a b c : Value) → pick a (pick b c) ≡ pick (pick a b) c
  assoc a b c = assoc_by a b c (is_null a) (is_null b) (is_null c) (better c b) (better b a) refl refl refl refl refl

  comm_by : (a b : Value) (na nb ba ab : Bool) → is_null a ≡ na → is_null b ≡ nb → better b a ≡ ba → better a b ≡ ab → pick a b ≡ pick b a
  comm_by a b true true ba ab p q r s = rw p rw q (null_is b q ∙ sym (null_is a p))
  comm_by a b true false ba ab p q r s = rw p rw q refl
  comm_by a b false true ba ab p q r s = rw p rw q refl
  comm_by a b false false true true p q r s = absurd (true≢false (sym s ∙ one a b r))
  comm_by a b false false true false p q r s = rw p rw q rw r rw s refl
  comm_by a b false false false true p q r s = rw p rw q rw r rw s refl
  comm_by a b false false false false p q r s = rw p rw q rw r rw s (tie a b r s)

  pub comm : (a b : Value) → pick a b ≡ pick b a
  comm a b = comm_by a b (is_null a) (is_null b) (better b a) (better a b) refl refl refl refl

  step_by : (m v : Value) (nm nv vm : Bool) → is_null m ≡ nm → is_null v ≡ nv → better v m ≡ vm → (if not (is_null v) && (is_null m || better v m) then v else m) ≡ pick m v
  step_by m v true true vm p q r = rw p rw q (null_is m p ∙ sym (null_is v q))
  step_by m v true false vm p q r = rw p rw q refl
  step_by m v false true vm p q r = rw p rw q refl
  step_by m v false false true p q r = rw p rw q rw r refl
  step_by m v false false false p q r = rw p rw q rw r refl

  pub step : (m v : Value) → (if not (is_null v) && (is_null m || better v m) then v else m) ≡ pick m v
  step m v = step_by m v (is_null m) (is_null v) (better v m) refl refl refl

  abbrev pub best : List Value → Value
  best [] = Null
  best (v ∷ vs) = pick v (best vs)

  none_right_by : (v : Value) (nv : Bool) → is_null v ≡ nv → pick v Null ≡ v
  none_right_by v true p = rw p (sym (null_is v p))
  none_right_by v false p = rw p refl

  pub none_right : (v : Value) → pick v Null ≡ v
  none_right v = none_right_by v (is_null v) refl

  pub best_append : (vs ws : List Value) → best (vs ++ ws) ≡ pick (best vs) (best ws)
  best_append [] ws = refl
  best_append (v ∷ vs) ws = ap (pick v) (best_append vs ws) ∙ assoc v (best vs) (best ws)

  pub step_append : (vs ws : List Value) → (if not (is_null (best ws)) && (is_null (best vs) || better (best ws) (best vs)) then best ws else best vs) ≡ best (vs ++ ws)
  step_append vs ws = step (best vs) (best ws) ∙ sym (best_append vs ws)

lt_is : (o : Ordering) → is_lt o ≡ true → o ≡ Less
lt_is Less h = refl
lt_is Equal h = cc
lt_is More h = cc

turned_lt : (o : Ordering) → is_gt (ordering_reverse o) ≡ is_lt o
turned_lt Less = refl
turned_lt Equal = refl
turned_lt More = refl

gt_not_lt : (o : Ordering) → is_gt o ≡ true → is_lt o ≡ false
gt_not_lt Less h = cc
gt_not_lt Equal h = cc
gt_not_lt More h = refl

lt_not_gt : (o : Ordering) → is_lt o ≡ true → is_gt o ≡ false
lt_not_gt Less h = refl
lt_not_gt Equal h = cc
lt_not_gt More h = cc

neither : (o : Ordering) → is_lt o ≡ false → is_gt o ≡ false → o ≡ Equal
neither Less h k = cc
neither Equal h k = refl
neither More h k = cc

flip : (a b : Value) → is_lt (order_of b a) ≡ is_gt (order_of a b)
flip a b = sym (turned_lt (order_of b a)) ∙ sym (ap is_gt (values_total.antisymm a b))

less_lt : (a b c : Value) → is_lt (order_of c b) ≡ true → is_lt (order_of b a) ≡ true → is_lt (order_of c a) ≡ true
less_lt a b c s t = ap is_lt (values_total.trans c b a (lt_is _ s) (lt_is _ t))

none_lt : (a b c : Value) → is_lt (order_of c b) ≡ false → is_lt (order_of b a) ≡ false → is_lt (order_of c a) ≡ false
none_lt a b c s t = flip a c ∙ upto values_total a b c (sym (flip a b) ∙ t) (sym (flip b c) ∙ s)

one_lt : (a b : Value) → is_lt (order_of b a) ≡ true → is_lt (order_of a b) ≡ false
one_lt a b h = gt_not_lt (order_of a b) (sym (flip a b) ∙ h)

tie_lt : (a b : Value) → is_lt (order_of b a) ≡ false → is_lt (order_of a b) ≡ false → a ≡ b
tie_lt a b p q = order_same a b (neither (order_of a b) q (sym (flip a b) ∙ p))

less_gt : (a b c : Value) → is_gt (order_of c b) ≡ true → is_gt (order_of b a) ≡ true → is_gt (order_of c a) ≡ true
less_gt a b c s t = sym (flip c a) ∙ ap is_lt (values_total.trans a b c (lt_is _ (flip b a ∙ t)) (lt_is _ (flip c b ∙ s)))

none_gt : (a b c : Value) → is_gt (order_of c b) ≡ false → is_gt (order_of b a) ≡ false → is_gt (order_of c a) ≡ false
none_gt a b c s t = upto values_total c b a s t

one_gt : (a b : Value) → is_gt (order_of b a) ≡ true → is_gt (order_of a b) ≡ false
one_gt a b h = lt_not_gt (order_of a b) (flip b a ∙ h)

tie_gt : (a b : Value) → is_gt (order_of b a) ≡ false → is_gt (order_of a b) ≡ false → a ≡ b
tie_gt a b p q = order_same a b (neither (order_of a b) (flip b a ∙ p) q)

abbrev lt : Value → Value → Bool
lt b a = is_lt (order_of b a)

abbrev gt : Value → Value → Bool
gt b a = is_gt (order_of b a)

pub least_step : (vs ws : List Value) → (if is_lesser (least vs) (least ws) then least ws else least vs) ≡ least (vs ++ ws)
least_step = step_append lt less_lt none_lt one_lt tie_lt

pub greatest_step : (vs ws : List Value) → (if is_greater (greatest vs) (greatest ws) then greatest ws else greatest vs) ≡ greatest (vs ++ ws)
greatest_step = step_append gt less_gt none_gt one_gt tie_gt

pub sum_append : (vs ws : List Value) → exact_sum (vs ++ ws) ≡ exact_sum vs +ℤ exact_sum ws
sum_append [] ws = sym (+ℤ_idl (exact_sum ws))
sum_append (v ∷ vs) ws = ap (λ (z : ℤ). number_of v +ℤ z) (sum_append vs ws) ∙ sym (+ℤ_assoc (number_of v) (exact_sum vs) (exact_sum ws))

pub present_append : (vs ws : List Value) → length (present (vs ++ ws)) ≡ length (present vs) + length (present ws)
present_append vs ws = ap length (filter-append (λ v. not (is_null v)) vs ws) ∙ length-append (present vs) (present ws)

abbrev pub join : Tally → Tally → Tally
join a b = record { records = a.records + b.records; total = record { sum = a.total.sum +ℤ b.total.sum; values = a.total.values + b.total.values }; least = lesser a.least b.least; greatest = greater a.greatest b.greatest }

pub tally_append : (vs ws : List Value) → tally (vs ++ ws) ≡ join (tally vs) (tally ws)
tally_append vs ws = λ i. record {
  records = length-append vs ws i;
  total = record { sum = sum_append vs ws i; values = present_append vs ws i };
  least = best_append lt less_lt none_lt one_lt tie_lt vs ws i;
  greatest = best_append gt less_gt none_gt one_gt tie_gt vs ws i;
}

add_assoc : (a b c : ℕ) → a + (b + c) ≡ (a + b) + c
add_assoc a b c = omega arith

add_comm : (a b : ℕ) → a + b ≡ b + a
add_comm a b = omega arith

pub join_assoc : (a b c : Tally) → join a (join b c) ≡ join (join a b) c
join_assoc a b c = λ i. record {
  records = add_assoc a.records b.records c.records i;
  total = record { sum = sym (+ℤ_assoc a.total.sum b.total.sum c.total.sum) i; values = add_assoc a.total.values b.total.values c.total.values i };
  least = assoc lt less_lt none_lt one_lt tie_lt a.least b.least c.least i;
  greatest = assoc gt less_gt none_gt one_gt tie_gt a.greatest b.greatest c.greatest i;
}

pub join_comm : (a b : Tally) → join a b ≡ join b a
join_comm a b = λ i. record {
  records = add_comm a.records b.records i;
  total = record { sum = +ℤ_comm a.total.sum b.total.sum i; values = add_comm a.total.values b.total.values i };
  least = comm lt less_lt none_lt one_lt tie_lt a.least b.least i;
  greatest = comm gt less_gt none_gt one_gt tie_gt a.greatest b.greatest i;
}

one_value : (v : Value) (null : Bool) → is_null v ≡ null → (if is_null v then 0 else 1) ≡ length (cond (not (is_null v)) (v ∷ []) [])
one_value v true e = rw e refl
one_value v false e = rw e refl

pub tally_one_is : (v : Value) → tally_one v ≡ tally (v ∷ [])
tally_one_is v = λ i. record {
  records = 1;
  total = record { sum = sym (+ℤ_idr (number_of v)) i; values = one_value v (is_null v) refl i };
  least = sym (none_right lt less_lt none_lt one_lt tie_lt v) i;
  greatest = sym (none_right gt less_gt none_gt one_gt tie_gt v) i;
}
