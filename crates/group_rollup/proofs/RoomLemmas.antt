-- Counts and sums of fewer than 2^63 records have room.
use Rattle.std.specs.Int.{saturate_to_bits}
use Rattle.std.proofs.Common.{◌≡◌, ◌≤◌, ◌<◌, ◌+◌, ◌*◌, ◌^◌, Bool, true, false, not, cond, List, [], ◌∷◌, length, map, filter, ℤ, pos, ◌+ℤ◌, unsigned_abs, ◌++◌, arith, refl, ap, negsuc, inl, inr}
use Rattle.jiff_core.proofs.SignedLemmas.{signed_arith, one_part}
use Rattle.std.proofs.lemmas.List.Filters.{length-filter_both}
use Rattle.std.specs.List.{AllByRecursion}
use Rattle.lp_values.specs.declared.value.Value.{Value}
use Rattle.group_rollup.specs.Groups.{first_of, rest_of, exact_sum, number_of, present, is_null}
use Rattle.group_rollup.specs.Groups.{Record, arguments}
use Rattle.group_rollup.specs.Tables.{IsSmall, AreSmall, AllSmall}

abs_sum : (a b : ℤ) → unsigned_abs (a +ℤ b) ≤ unsigned_abs a + unsigned_abs b
abs_sum a b = elim (one_part (a +ℤ b)) [ inl h ↦ omega (arith, signed_arith, h) | inr h ↦ omega (arith, signed_arith, h) ]

sum_bound : (vs : List Value) → AllByRecursion IsSmall vs → unsigned_abs (exact_sum vs) ≤ 2 ^ 63 * length vs
sum_bound [] all = omega arith
sum_bound (v ∷ vs) all =
    let step = abs_sum (number_of v) (exact_sum vs) in
    let rest = sum_bound vs all.1 in
    let here = all.0 in
    omega arith

present_less : (vs : List Value) → length (present vs) ≤ length vs
present_less vs =
    let e = length-filter_both (λ v. not (is_null v)) is_null (λ v. twice (is_null v)) vs in
    omega (arith, e)
  where
    twice : (b : Bool) → b ≡ not (not b)
    twice true = refl
    twice false = refl

-- so many values, each within 64 bits, have room
pub values_room : (vs : List Value) → AllByRecursion IsSmall vs → length vs < 2 ^ 63 → (length (present vs) ≤ length vs) × (unsigned_abs (exact_sum vs) < 2 ^ 127)
values_room vs all few = let b = sum_bound vs all in (present_less vs, omega arith)

pub saturated : (z : ℤ) → unsigned_abs z < 2 ^ 127 → saturate_to_bits 127 z ≡ z
saturated (pos n) h = ap pos (omega arith)
saturated (negsuc n) h = ap negsuc (omega arith)

first_small : (row : List Value) → AreSmall row → IsSmall (first_of row)
first_small [] all = omega arith
first_small (v ∷ row) all = all.0

rest_small : (row : List Value) → AreSmall row → AreSmall (rest_of row)
rest_small [] all = tt
rest_small (v ∷ row) all = all.1

pub firsts_small : (rows : List (List Value)) → AllByRecursion AreSmall rows → AllByRecursion IsSmall (map first_of rows)
firsts_small [] all = tt
firsts_small (row ∷ rows) all = (first_small row all.0, firsts_small rows all.1)

pub rests_small : (rows : List (List Value)) → AllByRecursion AreSmall rows → AllByRecursion AreSmall (map rest_of rows)
rests_small [] all = tt
rests_small (row ∷ rows) all = (rest_small row all.0, rests_small rows all.1)

pub kept_small : (p : Record → Bool) (records : List Record) → AllByRecursion AreSmall (arguments records) → AllByRecursion AreSmall (arguments (filter p records))
kept_small p [] all = tt
kept_small p (r ∷ records) all = by (p r) (kept_small p records all.1) all.0
  where
    by : (b : Bool) → AllByRecursion AreSmall (arguments (filter p records)) → AreSmall r.1 → AllByRecursion AreSmall (arguments (cond b (r ∷ filter p records) (filter p records)))
    by true rest here = (here, rest)
    by false rest here = rest

pub small_append : (records more : List Record) → AllSmall records → AllSmall more → AllSmall (records ++ more)
small_append [] more all those = those
small_append (r ∷ records) more all those = (all.0, small_append records more all.1 those)

pub kept_less : (p : Record → Bool) (records : List Record) → length (filter p records) ≤ length records
kept_less p records =
    let e = length-filter_both p (λ r. not (p r)) (λ r. refl) records in
    omega (arith, e)
