-- What is left in a row whose columns are moved out at their last use.
use Rattle.std.proofs.Common.{◌≡◌, ℕ, zero, suc, ◌+◌, ◌<◌, ◌&&◌, ◌==◌, Bool, true, false, not, List, [], ◌∷◌, ◌++◌, length, take, drop, get_or, inl, inr, refl, sym, ◌∙◌, ap, subst, arith, tests, rules}
use Rattle.std.proofs.lemmas.Bool.{cases_eq, or_left, or_right}
use Rattle.std.proofs.lemmas.List.{drop_more, map_more}
use Rattle.lp_values.specs.declared.value.Value.{Value}
use Rattle.lp_values.specs.declared.value.Value.TheVariants.{Null}
use Rattle.query_types.specs.Terms.{Term, column, constant, made, has_column, any_has_column}
use Rattle.row_engine.specs.Rows.{selected_in, value_in}
use Rattle.row_engine.specs.Uses.{is_last_use, last_uses}
use Rattle.row_engine.proofs.Agreeing.{Agree, value_same}

-- a column that a later item has isn't moved out
later_stays : (item : Term) (later : List Term) (k : ℕ) → any_has_column k later ≡ true → (is_last_use item later && has_column k item) ≡ false
later_stays (column n) later k there = elim (cases_eq n k) [
  | inl same ↦ rw (same, there) refl
  | inr apart ↦ let no : (n == k) ≡ false = search (rules, tests) in rw no (and_false (not (any_has_column n later)))
]
  where
    and_false : (b : Bool) → (b && false) ≡ false
    and_false true = refl
    and_false false = refl
later_stays (constant value) later k there = refl
later_stays (made kind by of) later k there = refl

-- the use at a place
last_use_at : (items : List Term) (i : ℕ) (d : Term) → i < length items → get_or (last_uses items) i false ≡ is_last_use (get_or items i d) (drop (i + 1) items)
last_use_at [] i d here = absurd (omega arith)
last_use_at (item ∷ items) zero d here = refl
last_use_at (item ∷ items) (suc i) d here =
    let behind : suc (i + 1) ≡ suc i + 1 = omega arith in
    last_use_at items i d (omega arith) ∙ ap (λ n. is_last_use (get_or items i d) (drop n (item ∷ items))) behind

-- what is left begins with the item at this place
left_of : (items : List Term) (i : ℕ) (item : Term) → i < length items → item ≡ get_or items i item → drop i items ≡ item ∷ drop (i + 1) items
left_of items i item here is = drop_more items i item here ∙ ap (λ t. t ∷ drop (i + 1) items) (sym is)

-- the row still agrees with the first in the columns of the items that are left
abbrev pub Left : List Value → List Value → List Term → Type 0
Left row first items = Agree row first (λ k. any_has_column k items)

-- the value of an item is what it was at first
pub value_left : (first row : List Value) (items : List Term) (i : ℕ) (item : Term) → i < length items → item ≡ get_or items i item → Left row first (drop i items)
    → value_in row item ≡ value_in first item
value_left first row items i item here is left =
    value_same row first item (λ k h. left k (subst (λ (ts : List Term). any_has_column k ts ≡ true) (sym (left_of items i item here is)) (or_left _ _ h)))

-- once it is taken, the row still agrees in the columns of those behind it
pub left_behind : (first row after : List Value) (items : List Term) (i : ℕ) (item : Term) (is_last : Bool) → i < length items → item ≡ get_or items i item → is_last ≡ get_or (last_uses items) i false
    → Left row first (drop i items) → ((k : ℕ) → (is_last && has_column k item) ≡ false → get_or after k Null ≡ get_or row k Null) → Left after first (drop (i + 1) items)
left_behind first row after items i item is_last here is last left others = λ k h.
    let stays = later_stays item (drop (i + 1) items) k h in
    let use_is = last ∙ (last_use_at items i item here ∙ ap (λ t. is_last_use t (drop (i + 1) items)) (sym is)) in
    others k (ap (λ b. b && has_column k item) use_is ∙ stays)
    ∙ left k (subst (λ (ts : List Term). any_has_column k ts ≡ true) (sym (left_of items i item here is)) (or_right _ _ h))

-- the output row has one value more
pub selected_more : (first : List Value) (items : List Term) (i : ℕ) (item : Term) (taken to : List Value) (value : Value) → i < length items → item ≡ get_or items i item
    → to ≡ taken ++ value ∷ [] → taken ≡ selected_in first (take i items) → value ≡ value_in first item → to ≡ selected_in first (take (i + 1) items)
selected_more first items i item taken to value here is to_is so_far value_is =
    to_is ∙ (ap (λ front. front ++ value ∷ []) so_far
    ∙ (ap (λ v. selected_in first (take i items) ++ v ∷ []) (value_is ∙ ap (value_in first) is)
    ∙ sym (map_more (value_in first) items i item here)))
