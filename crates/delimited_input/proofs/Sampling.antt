-- What rows tell of the kinds of columns.
use Rattle.std.proofs.Common.{◌≡◌, ℕ, suc, zero, ◌+◌, ◌-◌, ◌<◌, ◌≤◌, ◌==◌, Bool, true, false, not, ◌&&◌, List, [], ◌∷◌, ◌++◌, length, map, replicate, refl, sym, ap, ◌∙◌, inl, inr, arith, rules, tests}
use Rattle.std.specs.List.{list_all, range_with_len, enumerate_from}
use Rattle.std.proofs.lemmas.Bool.{cases_Bool}
use Rattle.std.proofs.lemmas.List.{append-nil, length_push, map-append, take_all, take-append-le}
use Rattle.std.proofs.lemmas.List.Elements.{filter-append}
use Rattle.std.proofs.lemmas.List.Folds.{list_all-append}
use Rattle.lp_time.specs.declared.piece.Piece.{Piece}
use Rattle.lp_values.specs.declared.kind.Kind.{Kind}
use Rattle.delimited_input.specs.declared.tally.Tally.{Tally}
use Rattle.delimited_input.specs.Kinds.{Row, is_integer, is_number, is_time, is_missing, filled_of, kind_of_texts, column_text, sample_of, column_kind, kinds_of}
use Rattle.delimited_input.specs.Sampled.{tally_of, new_tally, tally_with, kind_told, kind_seen, Sampled, StandsFor}

-- ---- one text more

made : Bool → Bool → Bool → Bool → Tally
made filled integers numbers times = record { filled = filled; integers = integers; numbers = numbers; times = times }

-- what texts tell that aren't empty
over : List Piece → List (List ℕ) → Tally
over pattern texts = made (not (length texts == 0)) (list_all is_integer texts) (list_all is_number texts) (list_all (is_time pattern) texts)

over_of : (pattern : List Piece) (texts : List (List ℕ)) → tally_of pattern texts ≡ over pattern (filled_of texts)
unfolding over made
over_of pattern texts = refl

and_true : (b : Bool) → (b && true) ≡ b
and_true true = refl
and_true false = refl

all_more : (p : List ℕ → Bool) (texts : List (List ℕ)) (text : List ℕ) → list_all p (texts ++ text ∷ []) ≡ (list_all p texts && p text)
all_more p texts text = list_all-append p texts (text ∷ []) ∙ ap (λ b. list_all p texts && b) (and_true (p text))

some_there : (texts : List (List ℕ)) (text : List ℕ) → not (length (texts ++ text ∷ []) == 0) ≡ true
some_there texts text = let size = length_push texts text in search (rules, tests)

over_more : (pattern : List Piece) (texts : List (List ℕ)) (text : List ℕ)
    → over pattern (texts ++ text ∷ []) ≡ made true (list_all is_integer texts && is_integer text) (list_all is_number texts && is_number text) (list_all (is_time pattern) texts && is_time pattern text)
unfolding over
over_more pattern texts text =
    let one = some_there texts text in
    let two = all_more is_integer texts text in
    let three = all_more is_number texts text in
    let four = all_more (is_time pattern) texts text in
    cc

tally_more : (pattern : List Piece) (texts : List (List ℕ)) (text : List ℕ) → tally_with pattern (tally_of pattern texts) text ≡ tally_of pattern (texts ++ text ∷ [])
unfolding made
tally_more pattern texts text =
    elim (cases_Bool (is_missing text)) [
      | inl missing ↦
          let none : filled_of (text ∷ []) ≡ [] = rw missing refl in
          let same : filled_of (texts ++ text ∷ []) ≡ filled_of texts = filter-append (λ t. not (is_missing t)) texts (text ∷ []) ∙ (ap (λ ts. filled_of texts ++ ts) none ∙ append-nil (filled_of texts)) in
          rw missing (over_of pattern texts ∙ (ap (over pattern) (sym same) ∙ sym (over_of pattern (texts ++ text ∷ []))))
      | inr there ↦
          let one : filled_of (text ∷ []) ≡ text ∷ [] = rw there refl in
          let more : filled_of (texts ++ text ∷ []) ≡ filled_of texts ++ text ∷ [] = filter-append (λ t. not (is_missing t)) texts (text ∷ []) ∙ ap (λ ts. filled_of texts ++ ts) one in
          rw there (sym (over_more pattern (filled_of texts) text) ∙ (ap (over pattern) (sym more) ∙ sym (over_of pattern (texts ++ text ∷ []))))
    ]

-- ---- lists of tallies

map_same : {X Y : Type 0} (f g : X → Y) → ((x : X) → f x ≡ g x) → (xs : List X) → map f xs ≡ map g xs
map_same f g same [] = refl
map_same f g same (x ∷ xs) = let first = same x in let rest = map_same f g same xs in cc

numbered : {X Y : Type 0} (h : ℕ × X → Y) (g : ℕ → X) (a n : ℕ) → map h (enumerate_from a (map g (range_with_len a n))) ≡ map (λ k. h (k, g k)) (range_with_len a n)
numbered h g a zero = refl
numbered h g a (suc n) = ap (λ t. h (a, g a) ∷ t) (numbered h g (a + 1) n)

map_twice : {X Y Z : Type 0} (f : Y → Z) (g : X → Y) (xs : List X) → map f (map g xs) ≡ map (λ x. f (g x)) xs
map_twice f g [] = refl
map_twice f g (x ∷ xs) = ap (λ t. f (g x) ∷ t) (map_twice f g xs)

all_new : (a n : ℕ) → map (λ (k : ℕ). new_tally) (range_with_len a n) ≡ replicate n new_tally
all_new a zero = refl
all_new a (suc n) = ap (λ t. new_tally ∷ t) (all_new (a + 1) n)

-- ---- no row

pub stands_new : (limit columns : ℕ) (pattern : List Piece) (tallies : List Tally) → columns ≡ length tallies → tallies ≡ replicate (length tallies) new_tally
    → StandsFor (record { columns = columns; limit = limit; pattern = pattern; met = false; left = limit; tallies = tallies }) []
stands_new limit columns pattern tallies size e = record {
  met = refl;
  left = omega arith;
  tallies = e
      ∙ (sym (all_new 0 (length tallies))
      ∙ (map_same (λ (k : ℕ). new_tally) (λ (k : ℕ). tally_of pattern (sample_of limit [] k)) (λ k. sym (no_sample k)) (range_with_len 0 (length tallies))
      ∙ ap (λ n. map (λ (k : ℕ). tally_of pattern (sample_of limit [] k)) (range_with_len 0 n)) (sym size)));
}
  where
    no_sample : (k : ℕ) → tally_of pattern (sample_of limit [] k) ≡ new_tally
    no_sample k = ap (λ (rows : List Row). tally_of pattern (map (column_text k) rows)) (take_all limit [] (omega arith))

-- ---- one row more

-- a row that still tells
sample_more : (limit : ℕ) (rows : List Row) (row : Row) (k : ℕ) → length rows < limit → sample_of limit (rows ++ row ∷ []) k ≡ sample_of limit rows k ++ column_text k row ∷ []
sample_more limit rows row k room =
    let size = length_push rows row in
    ap (map (column_text k)) (take_all limit (rows ++ row ∷ []) (omega arith))
    ∙ (map-append (column_text k) rows (row ∷ [])
    ∙ ap (λ (shown : List Row). map (column_text k) shown ++ column_text k row ∷ []) (sym (take_all limit rows (omega arith))))

pub stands_taken : (old new : Sampled) (row : Row) → 0 < old.left → new.columns ≡ old.columns → new.limit ≡ old.limit → new.pattern ≡ old.pattern → new.met ≡ true → new.left ≡ old.left - 1
    → new.tallies ≡ map (λ column. tally_with old.pattern column.1 (column_text column.0 row)) (enumerate_from 0 old.tallies)
    → (rows : List Row) → StandsFor old rows → StandsFor new (rows ++ row ∷ [])
stands_taken old new row room columns limit pattern met left tallies rows stands =
    let size = length_push rows row in
    let tells : length rows < old.limit = omega (arith, stands.left) in
    record {
      met = met ∙ sym (some_row rows row);
      left = omega (arith, left, limit, stands.left);
      tallies = tallies
          ∙ (ap (λ (told : List Tally). map (λ column. tally_with old.pattern column.1 (column_text column.0 row)) (enumerate_from 0 told)) stands.tallies
          ∙ (numbered (λ column. tally_with old.pattern column.1 (column_text column.0 row)) (λ k. tally_of old.pattern (sample_of old.limit rows k)) 0 old.columns
          ∙ (map_same (λ k. tally_with old.pattern (tally_of old.pattern (sample_of old.limit rows k)) (column_text k row)) (λ k. tally_of new.pattern (sample_of new.limit (rows ++ row ∷ []) k))
          (λ k. tally_more old.pattern (sample_of old.limit rows k) (column_text k row)
          ∙ (ap (tally_of old.pattern) (sym (sample_more old.limit rows row k tells))
          ∙ (ap (λ (n : ℕ). tally_of old.pattern (sample_of n (rows ++ row ∷ []) k)) (sym limit)
          ∙ ap (λ (p : List Piece). tally_of p (sample_of new.limit (rows ++ row ∷ []) k)) (sym pattern)))) (range_with_len 0 old.columns)
          ∙ ap (λ n. map (λ (k : ℕ). tally_of new.pattern (sample_of new.limit (rows ++ row ∷ []) k)) (range_with_len 0 n)) (sym columns))));
    }
  where
    some_row : (rows : List Row) (row : Row) → not (length (rows ++ row ∷ []) == 0) ≡ true
    some_row rows row = let size = length_push rows row in search (rules, tests)

-- a row that tells nothing more
pub stands_past : (old new : Sampled) (row : Row) → old.left ≡ 0 → new.columns ≡ old.columns → new.limit ≡ old.limit → new.pattern ≡ old.pattern → new.met ≡ true → new.left ≡ old.left → new.tallies ≡ old.tallies
    → (rows : List Row) → StandsFor old rows → StandsFor new (rows ++ row ∷ [])
stands_past old new row full columns limit pattern met left tallies rows stands =
    let size = length_push rows row in
    let enough : old.limit ≤ length rows = omega (arith, stands.left) in
    record {
      met = met ∙ sym (some_row rows row);
      left = omega (arith, left, limit, stands.left);
      tallies = tallies
          ∙ (stands.tallies
          ∙ (map_same (λ k. tally_of old.pattern (sample_of old.limit rows k)) (λ k. tally_of new.pattern (sample_of new.limit (rows ++ row ∷ []) k))
          (λ k. ap (λ (shown : List Row). tally_of old.pattern (map (column_text k) shown)) (sym (take-append-le old.limit rows (row ∷ []) enough))
          ∙ (ap (λ (n : ℕ). tally_of old.pattern (sample_of n (rows ++ row ∷ []) k)) (sym limit)
          ∙ ap (λ (p : List Piece). tally_of p (sample_of new.limit (rows ++ row ∷ []) k)) (sym pattern))) (range_with_len 0 old.columns)
          ∙ ap (λ n. map (λ (k : ℕ). tally_of new.pattern (sample_of new.limit (rows ++ row ∷ []) k)) (range_with_len 0 n)) (sym columns)));
    }
  where
    some_row : (rows : List Row) (row : Row) → not (length (rows ++ row ∷ []) == 0) ≡ true
    some_row rows row = let size = length_push rows row in search (rules, tests)

-- ---- the kinds

told_by : (pattern : List Piece) (texts : List (List ℕ)) → kind_told (tally_of pattern texts) ≡ kind_of_texts pattern texts
told_by pattern texts = elim (cases_Bool (length (filled_of texts) == 0)) [
  | inl none ↦ rw none refl
  | inr some ↦ rw some refl
]

seen_by : (met : Bool) (pattern : List Piece) (limit : ℕ) (rows : List Row) (k : ℕ) → met ≡ not (length rows == 0) → kind_seen met (tally_of pattern (sample_of limit rows k)) ≡ column_kind pattern limit rows k
seen_by met pattern limit rows k e = elim (cases_Bool (length rows == 0)) [
  | inl none ↦ let unmet : met ≡ false = e ∙ ap not none in rw (none, unmet) refl
  | inr some ↦ let is_met : met ≡ true = e ∙ ap not some in rw (some, is_met) (told_by pattern (sample_of limit rows k))
]

pub kinds_told : (sampled : Sampled) (kinds : List Kind) → kinds ≡ map (kind_seen sampled.met) sampled.tallies → (rows : List Row) → StandsFor sampled rows
    → kinds ≡ kinds_of sampled.columns sampled.pattern sampled.limit rows
unfolding kinds_of
kinds_told sampled kinds e rows stands =
    e
    ∙ (ap (map (kind_seen sampled.met)) stands.tallies
    ∙ (map_twice (kind_seen sampled.met) (λ k. tally_of sampled.pattern (sample_of sampled.limit rows k)) (range_with_len 0 sampled.columns)
    ∙ map_same (λ k. kind_seen sampled.met (tally_of sampled.pattern (sample_of sampled.limit rows k))) (column_kind sampled.pattern sampled.limit rows)
    (λ k. seen_by sampled.met sampled.pattern sampled.limit rows k stands.met) (range_with_len 0 sampled.columns)))
