-- What is found with one value more.
use Rattle.std.proofs.Common.{◌≡◌, ℕ, ℤ, pos, ◌*ℤ◌, Bool, true, false, ◌||◌, List, [], ◌∷◌, ◌++◌, refl, sym, ◌∙◌, ap, inl, inr, nat_eq, arith}
use Rattle.std.proofs.Common.{subst, fold, append-nil, append_assoc}
use Rattle.std.proofs.lemmas.Bool.{cases_Bool}
use Rattle.std.proofs.lemmas.List.Folds.{list_any-append}
use Rattle.std.specs.List.{list_any}
use Rattle.indexmap.specs.IndexSet.{insert_key}
use Rattle.lp_values.specs.declared.comparison.Compare.TheVariants as C
use Rattle.lp_values.specs.declared.truth.Truth.{Truth}
use Rattle.lp_values.specs.declared.truth.Truth.TheVariants.{Yes, No, Unknown}
use Rattle.lp_values.specs.declared.value.Value.{Value}
use Rattle.lp_values.specs.declared.value.Value.TheVariants.{Null, Int, Real, Text, Stamp}
use Rattle.std.specs.Ordering.{int_eq}
use Rattle.std.specs.Cmp.{signed_Decides, both_ways}
use Rattle.std.specs.Cmp.Lexicographic.{pointwise, bytes_decides, texts_ties}
use Rattle.jiff_core.proofs.SignedLemmas.{signed_arith}
use Rattle.lp_values.specs.Comparing.{compared, truth_of}
use Rattle.lp_values.specs.Truths.{either}
use Rattle.in_set.specs.Facts.{Facts, StandsFor, facts_of, found, no_facts, with_value, in_list, verdict, has_any}

-- one more of the same sort
pub same_sort : (a b others : Bool) → verdict (a || b) others ≡ either (verdict a others) (truth_of b)
same_sort true true others = refl
same_sort true false others = refl
same_sort false true true = refl
same_sort false true false = refl
same_sort false false true = refl
same_sort false false false = refl

-- one more that can't be compared
pub other_sort : (a others : Bool) → verdict a true ≡ either (verdict a others) Unknown
other_sort true others = refl
other_sort false true = refl
other_sort false false = refl

either_alike : (a b c : Truth) → either a (either b c) ≡ either (either a b) c
either_alike Yes Yes Yes = refl
either_alike Yes Yes No = refl
either_alike Yes Yes Unknown = refl
either_alike Yes No Yes = refl
either_alike Yes No No = refl
either_alike Yes No Unknown = refl
either_alike Yes Unknown Yes = refl
either_alike Yes Unknown No = refl
either_alike Yes Unknown Unknown = refl
either_alike No Yes Yes = refl
either_alike No Yes No = refl
either_alike No Yes Unknown = refl
either_alike No No Yes = refl
either_alike No No No = refl
either_alike No No Unknown = refl
either_alike No Unknown Yes = refl
either_alike No Unknown No = refl
either_alike No Unknown Unknown = refl
either_alike Unknown Yes Yes = refl
either_alike Unknown Yes No = refl
either_alike Unknown Yes Unknown = refl
either_alike Unknown No Yes = refl
either_alike Unknown No No = refl
either_alike Unknown No Unknown = refl
either_alike Unknown Unknown Yes = refl
either_alike Unknown Unknown No = refl
either_alike Unknown Unknown Unknown = refl

either_turned : (a : Truth) → either a No ≡ either No a
either_turned Yes = refl
either_turned No = refl
either_turned Unknown = refl

pub in_more : (v : Value) (xs : List Value) (y : Value) → in_list v (xs ++ y ∷ []) ≡ either (in_list v xs) (compared C.Equal v y)
in_more v [] y = either_turned (compared C.Equal v y)
in_more v (x ∷ xs) y = ap (either (compared C.Equal v x)) (in_more v xs y) ∙ either_alike (compared C.Equal v x) (in_list v xs) (compared C.Equal v y)

module _ {X : Type 0} (eq : X → X → Bool) (told : (x y : X) → eq x y ≡ true → x ≡ y) where
  known : (ks : List X) (k : X) → list_any (eq k) ks ≡ true → insert_key eq ks k ≡ ks
  known ks k e = rw e refl

  added : (ks : List X) (k : X) → list_any (eq k) ks ≡ false → insert_key eq ks k ≡ ks ++ k ∷ []
  added ks k e = rw e refl

  or_false : (a : Bool) → (a || false) ≡ a
  or_false true = refl
  or_false false = refl

  any_inserted : (k y : X) (ks : List X) → list_any (eq k) (insert_key eq ks y) ≡ (list_any (eq k) ks || eq k y)
  any_inserted k y ks = elim (cases_Bool (list_any (eq y) ks)) [
    | inl holds ↦ ap (list_any (eq k)) (known ks y holds) ∙ elim (cases_Bool (eq k y)) [
      | inl ky ↦
          let there : list_any (eq k) ks ≡ true = ap (λ (w : X). list_any (eq w) ks) (told k y ky) ∙ holds in
          there ∙ sym (ap (λ (b : Bool). b || eq k y) there)
      | inr ky ↦ sym (ap (λ (b : Bool). list_any (eq k) ks || b) ky ∙ or_false (list_any (eq k) ks))
    ]
    | inr fails ↦ ap (list_any (eq k)) (added ks y fails) ∙ (list_any-append (eq k) ks (y ∷ []) ∙ ap (λ (b : Bool). list_any (eq k) ks || b) (or_false (eq k y)))
  ]

  some_any : (ks ls : List X) (y : X) → has_any (ks ++ y ∷ ls) ≡ true
  some_any [] ls y = refl
  some_any (k ∷ ks) ls y = refl

  has_one : (k : X) (ks : List X) → list_any (eq k) ks ≡ true → has_any ks ≡ true
  has_one k [] e = e
  has_one k (x ∷ xs) e = refl

  has_inserted : (ks : List X) (y : X) → has_any (insert_key eq ks y) ≡ true
  has_inserted ks y = elim (cases_Bool (list_any (eq y) ks)) [
    | inl holds ↦ ap has_any (known ks y holds) ∙ has_one y ks holds
    | inr fails ↦ ap has_any (added ks y fails) ∙ some_any ks [] y
  ]

int_told : (x y : ℤ) → int_eq x y ≡ true → x ≡ y
int_told x y e = (signed_Decides x y).0 e

text_told : (x y : List ℕ) → pointwise nat_eq x y ≡ true → x ≡ y
text_told x y e = (bytes_decides x y).0 e

scaled_back : (a b : ℤ) → a *ℤ pos 1_000_000 ≡ b *ℤ pos 1_000_000 → a ≡ b
scaled_back a b e = omega (arith, signed_arith)

scaled : (a b : ℤ) → int_eq (a *ℤ pos 1_000_000) (b *ℤ pos 1_000_000) ≡ int_eq a b
scaled a b = both_ways (int_eq (a *ℤ pos 1_000_000) (b *ℤ pos 1_000_000)) (int_eq a b)
    (λ h. (signed_Decides a b).1 (scaled_back a b (int_told (a *ℤ pos 1_000_000) (b *ℤ pos 1_000_000) h)))
    (λ h. (signed_Decides (a *ℤ pos 1_000_000) (b *ℤ pos 1_000_000)).1 (ap (λ (z : ℤ). z *ℤ pos 1_000_000) (int_told a b h)))

-- each of the others makes a flag true
first_flag : (a b : Bool) → (true || (a || b)) ≡ true
first_flag a b = refl

second_flag : (a b c : Bool) → b ≡ true → (a || (b || c)) ≡ true
second_flag true b c e = refl
second_flag false b c e = ap (λ (x : Bool). x || c) e

third_flag : (a b c : Bool) → c ≡ true → (a || (b || c)) ≡ true
third_flag true b c e = refl
third_flag false true c e = refl
third_flag false false c e = e

-- one more of the same sort, with its test
same_found : (a b a' o : Bool) → a' ≡ (a || b) → verdict a' o ≡ either (verdict a o) (truth_of b)
same_found a b a' o e = ap (λ (x : Bool). verdict x o) e ∙ same_sort a b o

-- one more of another
other_found : (a o o' : Bool) → o' ≡ true → verdict a o' ≡ either (verdict a o) Unknown
other_found a o o' e = ap (verdict a) e ∙ other_sort a o

fourth_flag : (a b c d : Bool) → d ≡ true → (a || (b || (c || d))) ≡ true
fourth_flag true b c d e = refl
fourth_flag false b c d e = third_flag b c d e

mid_flag : (a b c d : Bool) → c ≡ true → (a || (b || (c || d))) ≡ true
mid_flag true b c d e = refl
mid_flag false b c d e = second_flag b c d e

pub found_more : (f : Facts) (x v : Value) → found (with_value f x) v ≡ either (found f v) (compared C.Equal v x)
found_more f Null Null = other_found false (f.nulls || (has_any f.numbers || (has_any f.texts || has_any f.stamps))) _ refl
found_more f Null (Int b) = other_found (list_any (int_eq (b *ℤ pos 1_000_000)) f.numbers) (f.nulls || (has_any f.texts || has_any f.stamps)) _ refl
found_more f Null (Real b) = other_found (list_any (int_eq b.millionths) f.numbers) (f.nulls || (has_any f.texts || has_any f.stamps)) _ refl
found_more f Null (Text b) = other_found (list_any (pointwise nat_eq b) f.texts) (f.nulls || (has_any f.numbers || has_any f.stamps)) _ refl
found_more f Null (Stamp b) = other_found (list_any (int_eq b.seconds) f.stamps) (f.nulls || (has_any f.numbers || has_any f.texts)) _ refl
found_more f (Int a) Null = other_found false (f.nulls || (has_any f.numbers || (has_any f.texts || has_any f.stamps))) _ (second_flag (f.nulls) (has_any (insert_key int_eq f.numbers (a *ℤ pos 1_000_000))) (has_any f.texts || has_any f.stamps) (has_inserted int_eq int_told f.numbers (a *ℤ pos 1_000_000)))
found_more f (Int a) (Int b) = same_found (list_any (int_eq (b *ℤ pos 1_000_000)) f.numbers) (int_eq b a) _ (f.nulls || (has_any f.texts || has_any f.stamps)) (any_inserted int_eq int_told (b *ℤ pos 1_000_000) (a *ℤ pos 1_000_000) f.numbers ∙ ap (λ (t : Bool). (list_any (int_eq (b *ℤ pos 1_000_000)) f.numbers) || t) (scaled b a))
found_more f (Int a) (Real b) = same_found (list_any (int_eq b.millionths) f.numbers) (int_eq b.millionths (a *ℤ pos 1_000_000)) _ (f.nulls || (has_any f.texts || has_any f.stamps)) (any_inserted int_eq int_told b.millionths (a *ℤ pos 1_000_000) f.numbers)
found_more f (Int a) (Text b) = other_found (list_any (pointwise nat_eq b) f.texts) (f.nulls || (has_any f.numbers || has_any f.stamps)) _ (second_flag (f.nulls) (has_any (insert_key int_eq f.numbers (a *ℤ pos 1_000_000))) (has_any f.stamps) (has_inserted int_eq int_told f.numbers (a *ℤ pos 1_000_000)))
found_more f (Int a) (Stamp b) = other_found (list_any (int_eq b.seconds) f.stamps) (f.nulls || (has_any f.numbers || has_any f.texts)) _ (second_flag (f.nulls) (has_any (insert_key int_eq f.numbers (a *ℤ pos 1_000_000))) (has_any f.texts) (has_inserted int_eq int_told f.numbers (a *ℤ pos 1_000_000)))
found_more f (Real a) Null = other_found false (f.nulls || (has_any f.numbers || (has_any f.texts || has_any f.stamps))) _ (second_flag (f.nulls) (has_any (insert_key int_eq f.numbers a.millionths)) (has_any f.texts || has_any f.stamps) (has_inserted int_eq int_told f.numbers a.millionths))
found_more f (Real a) (Int b) = same_found (list_any (int_eq (b *ℤ pos 1_000_000)) f.numbers) (int_eq (b *ℤ pos 1_000_000) a.millionths) _ (f.nulls || (has_any f.texts || has_any f.stamps)) (any_inserted int_eq int_told (b *ℤ pos 1_000_000) a.millionths f.numbers)
found_more f (Real a) (Real b) = same_found (list_any (int_eq b.millionths) f.numbers) (int_eq b.millionths a.millionths) _ (f.nulls || (has_any f.texts || has_any f.stamps)) (any_inserted int_eq int_told b.millionths a.millionths f.numbers)
found_more f (Real a) (Text b) = other_found (list_any (pointwise nat_eq b) f.texts) (f.nulls || (has_any f.numbers || has_any f.stamps)) _ (second_flag (f.nulls) (has_any (insert_key int_eq f.numbers a.millionths)) (has_any f.stamps) (has_inserted int_eq int_told f.numbers a.millionths))
found_more f (Real a) (Stamp b) = other_found (list_any (int_eq b.seconds) f.stamps) (f.nulls || (has_any f.numbers || has_any f.texts)) _ (second_flag (f.nulls) (has_any (insert_key int_eq f.numbers a.millionths)) (has_any f.texts) (has_inserted int_eq int_told f.numbers a.millionths))
found_more f (Text a) Null = other_found false (f.nulls || (has_any f.numbers || (has_any f.texts || has_any f.stamps))) _ (mid_flag (f.nulls) (has_any f.numbers) (has_any (insert_key (pointwise nat_eq) f.texts a)) (has_any f.stamps) (has_inserted (pointwise nat_eq) text_told f.texts a))
found_more f (Text a) (Int b) = other_found (list_any (int_eq (b *ℤ pos 1_000_000)) f.numbers) (f.nulls || (has_any f.texts || has_any f.stamps)) _ (second_flag (f.nulls) (has_any (insert_key (pointwise nat_eq) f.texts a)) (has_any f.stamps) (has_inserted (pointwise nat_eq) text_told f.texts a))
found_more f (Text a) (Real b) = other_found (list_any (int_eq b.millionths) f.numbers) (f.nulls || (has_any f.texts || has_any f.stamps)) _ (second_flag (f.nulls) (has_any (insert_key (pointwise nat_eq) f.texts a)) (has_any f.stamps) (has_inserted (pointwise nat_eq) text_told f.texts a))
found_more f (Text a) (Text b) = same_found (list_any (pointwise nat_eq b) f.texts) (pointwise nat_eq b a) _ (f.nulls || (has_any f.numbers || has_any f.stamps)) (any_inserted (pointwise nat_eq) text_told b a f.texts) ∙ ap (λ (t : Bool). either (verdict (list_any (pointwise nat_eq b) f.texts) (f.nulls || (has_any f.numbers || has_any f.stamps))) (truth_of t)) (texts_ties b a)
found_more f (Text a) (Stamp b) = other_found (list_any (int_eq b.seconds) f.stamps) (f.nulls || (has_any f.numbers || has_any f.texts)) _ (third_flag (f.nulls) (has_any f.numbers) (has_any (insert_key (pointwise nat_eq) f.texts a)) (has_inserted (pointwise nat_eq) text_told f.texts a))
found_more f (Stamp a) Null = other_found false (f.nulls || (has_any f.numbers || (has_any f.texts || has_any f.stamps))) _ (fourth_flag (f.nulls) (has_any f.numbers) (has_any f.texts) (has_any (insert_key int_eq f.stamps a.seconds)) (has_inserted int_eq int_told f.stamps a.seconds))
found_more f (Stamp a) (Int b) = other_found (list_any (int_eq (b *ℤ pos 1_000_000)) f.numbers) (f.nulls || (has_any f.texts || has_any f.stamps)) _ (third_flag (f.nulls) (has_any f.texts) (has_any (insert_key int_eq f.stamps a.seconds)) (has_inserted int_eq int_told f.stamps a.seconds))
found_more f (Stamp a) (Real b) = other_found (list_any (int_eq b.millionths) f.numbers) (f.nulls || (has_any f.texts || has_any f.stamps)) _ (third_flag (f.nulls) (has_any f.texts) (has_any (insert_key int_eq f.stamps a.seconds)) (has_inserted int_eq int_told f.stamps a.seconds))
found_more f (Stamp a) (Text b) = other_found (list_any (pointwise nat_eq b) f.texts) (f.nulls || (has_any f.numbers || has_any f.stamps)) _ (third_flag (f.nulls) (has_any f.numbers) (has_any (insert_key int_eq f.stamps a.seconds)) (has_inserted int_eq int_told f.stamps a.seconds))
found_more f (Stamp a) (Stamp b) = same_found (list_any (int_eq b.seconds) f.stamps) (int_eq b.seconds a.seconds) _ (f.nulls || (has_any f.numbers || has_any f.texts)) (any_inserted int_eq int_told b.seconds a.seconds f.stamps)

pub stands_more : (f : Facts) (x : Value) (values : List Value) → StandsFor f values → StandsFor (with_value f x) (values ++ x ∷ [])
stands_more f x values stands v = found_more f x v ∙ (ap (λ (t : Truth). either t (compared C.Equal v x)) (stands v) ∙ sym (in_more v values x))

none_found : StandsFor no_facts []
none_found Null = refl
none_found (Int number) = refl
none_found (Real number) = refl
none_found (Text text) = refl
none_found (Stamp stamp) = refl

-- with values behind those that a set stands for it stands for all
stands_with : (f : Facts) (front values : List Value) → StandsFor f front → StandsFor (fold with_value f values) (front ++ values)
stands_with f front [] stands = subst (λ (l : List Value). StandsFor f l) (sym (append-nil front)) stands
stands_with f front (x ∷ values) stands =
    subst (λ (l : List Value). StandsFor (fold with_value (with_value f x) values) l) (append_assoc front (x ∷ []) values) (stands_with (with_value f x) (front ++ x ∷ []) values (stands_more f x front stands))

-- what is remembered of a list finds exactly what is in the list
pub finds_all : (values : List Value) → StandsFor (facts_of values) values
finds_all values = stands_with no_facts [] values none_found
