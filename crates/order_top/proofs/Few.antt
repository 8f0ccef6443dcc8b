-- No more rows are kept than were given.
use Rattle.std.proofs.Common.{◌≡◌, ◌≤◌, if◌then◌else◌, ℕ, suc, Bool, true, false, not, List, [], ◌∷◌, length, take, Option, Some, None, refl, sym, ◌∙◌, ap, inl, inr, subst, arith}
use Rattle.std.proofs.lemmas.Bool.{cases_Bool}
use Rattle.std.proofs.lemmas.List.{length-take}
use Rattle.std.specs.List.{filter}
use Rattle.order_top.specs.Finish.{Row, Finish, same_row, precedes, distinct_rows}
use Rattle.order_top.specs.Lists.{first_occurrences, ordered, with_earlier}
use Rattle.order_top.specs.Ordering.{Ordering, StandsFor, kept_of}

length_earlier : (lt : Row → Row → Bool) (x : Row) (l : List Row) → length (with_earlier lt x l) ≡ suc (length l)
length_earlier lt x [] = refl
length_earlier lt x (w ∷ ws) = elim (cases_Bool (lt w x)) [
  | inl holds ↦ rw holds (ap suc (length_earlier lt x ws))
  | inr fails ↦ rw fails refl
]

pub length_ordered : (lt : Row → Row → Bool) (l : List Row) → length (ordered lt l) ≡ length l
length_ordered lt [] = refl
length_ordered lt (x ∷ xs) = length_earlier lt x (ordered lt xs) ∙ ap suc (length_ordered lt xs)

filter_few : (p : Row → Bool) (l : List Row) → length (filter p l) ≤ length l
filter_few p [] = omega arith
filter_few p (x ∷ xs) = elim (cases_Bool (p x)) [
  | inl holds ↦ let fewer = filter_few p xs in rw holds (omega arith)
  | inr fails ↦ let fewer = filter_few p xs in rw fails (omega arith)
]

firsts_few : (l : List Row) → length (first_occurrences same_row l) ≤ length l
firsts_few [] = omega arith
firsts_few (x ∷ xs) =
    let fewer = filter_few (λ y. not (same_row x y)) (first_occurrences same_row xs) in
    let before = firsts_few xs in
    omega arith

distinct_few : (distinct : Bool) (l : List Row) → length (if distinct then first_occurrences same_row l else l) ≤ length l
distinct_few true l = firsts_few l
distinct_few false l = omega arith

first_few : (n : ℕ) (l : List Row) (k : ℕ) → length l ≤ k → length (take n l) ≤ k
first_few n l k h = subst (λ (m : ℕ). m ≤ k) (sym (length-take n l)) (omega arith)

under_few : (top : Option ℕ) (columns : List ℕ) (descending distinct : Bool) (rows : List Row) → length (kept_of (record { columns = columns; descending = descending; distinct = distinct; top = top }) rows) ≤ length rows
under_few None columns descending distinct rows = distinct_few distinct rows
under_few (Some n) columns descending distinct rows =
    let finish : Finish = record { columns = columns; descending = descending; distinct = distinct; top = Some n } in
    first_few n (ordered (precedes finish) (distinct_rows finish rows)) (length rows) (subst (λ (m : ℕ). m ≤ length rows) (sym (length_ordered (precedes finish) (distinct_rows finish rows))) (distinct_few distinct rows))

pub few_kept : (s : Ordering) (held : ℕ) → held ≡ length s.kept → (rows : List Row) → StandsFor s rows → held ≤ length rows
few_kept s held is rows stands = subst (λ (m : ℕ). m ≤ length rows) (sym (is ∙ ap length stands.kept)) (under_few s.finish.top s.finish.columns s.finish.descending s.finish.distinct rows)
