-- Steps along lists whose items count their places.
use Rattle.std.proofs.Common.{◌≡◌, ℕ, zero, suc, ◌+◌, ◌<◌, ◌≤◌, List, [], ◌∷◌, ◌++◌, length, drop, get_or, map, take, Some, None, refl, sym, ◌∙◌, ap, arith, add-one, append_assoc}
use Rattle.std.proofs.Math.Seq.{drop-cons}
use Rattle.std.specs.List.{slice_get}
use Rattle.std.proofs.lemmas.List.{map-append, take_all, take_more}
use Rattle.lp_time.specs.declared.piece.Piece.{Piece}
use Rattle.lp_values.specs.declared.kind.Kind.{Kind}
use Rattle.lp_values.specs.declared.value.Value.{Value}
use Rattle.lp_values.specs.declared.value.Value.TheVariants.{Null}
use Rattle.delimited_input.specs.Kinds.{kinds_of}
use Rattle.delimited_input.specs.Sampled.{Sampled, StandsFor}
use Rattle.column_kinds.specs.Fields.{indexed, texts_under}
use Rattle.column_kinds.specs.Judged.{kinds_under}
use Rattle.column_kinds.specs.Kept.{found_in}
use Rattle.column_kinds.specs.declared.kept.FirstLog.{FirstLog}
use Rattle.column_kinds.specs.declared.kept.KeptRow.{KeptRow}

-- what is left begins with the one at this place
dropped : {A : Type 0} (xs : List A) (i : ℕ) (x : A) → i < length xs → x ≡ get_or xs i x → drop i xs ≡ x ∷ drop (i + 1) xs
dropped xs i x here is = rw add-one (drop-cons xs i x here ∙ ap (λ y. y ∷ drop (suc i) xs) (sym is))

pub indexed_step : {A B : Type 0} (make : ℕ → A → B) (xs : List A) (i : ℕ) (x : A) (front : List B) (made : B) → i < length xs → x ≡ get_or xs i x → made ≡ make i x
    → front ++ indexed make i (drop i xs) ≡ (front ++ made ∷ []) ++ indexed make (i + 1) (drop (i + 1) xs)
indexed_step make xs i x front made here is made_is =
    let rest = indexed make (i + 1) (drop (i + 1) xs) in
    ap (λ l. front ++ indexed make i l) (dropped xs i x here is)
    ∙ ap (λ b. front ++ b ∷ rest) (sym made_is)
    ∙ sym (append_assoc front (made ∷ []) rest)

-- what the one at a place gives
pub indexed_at : {A : Type 0} (make : ℕ → A → Value) (xs : List A) (at k : ℕ) (x : A) → slice_get xs k ≡ Some x → get_or (indexed make at xs) k Null ≡ make (at + k) x
indexed_at make [] at k x e = absurd cc
indexed_at make (first ∷ xs) at zero x e =
    let here : first ≡ x = cc in
    let sum : at ≡ at + 0 = omega arith in
    ap (make at) here ∙ ap (λ n. make n x) sum
indexed_at make (first ∷ xs) at (suc k) x e =
    let sum : at + 1 + k ≡ at + suc k = omega arith in
    indexed_at make xs (at + 1) k x e ∙ ap (λ n. make n x) sum

pub indexed_none : {A : Type 0} (make : ℕ → A → Value) (xs : List A) (at k : ℕ) → slice_get xs k ≡ None → get_or (indexed make at xs) k Null ≡ Null
indexed_none make [] at k e = refl
indexed_none make (first ∷ xs) at zero e = absurd cc
indexed_none make (first ∷ xs) at (suc k) e = indexed_none make xs (at + 1) k e

pub indexed_length : {A B : Type 0} (make : ℕ → A → B) (at : ℕ) (xs : List A) → length (indexed make at xs) ≡ length xs
indexed_length make at [] = omega arith
indexed_length make at (x ∷ xs) = ap suc (indexed_length make (at + 1) xs)

-- the texts of one record more
pub texts_more : (first : FirstLog) (rows : List KeptRow) (i : ℕ) (row : KeptRow) (texts : List (List ℕ)) → i < length rows → row ≡ get_or rows i row → texts ≡ texts_under first (found_in row)
    → map (texts_under first) (map found_in (take i rows)) ++ texts ∷ [] ≡ map (texts_under first) (map found_in (take (i + 1) rows))
texts_more first rows i row texts here is texts_is =
    ap (λ t. map (texts_under first) (map found_in (take i rows)) ++ t ∷ []) texts_is
    ∙ sym (ap (λ t. map (texts_under first) (map found_in t)) (take_more rows i row here ∙ ap (λ r. take i rows ++ r ∷ []) (sym is))
    ∙ (ap (map (texts_under first)) (map-append found_in (take i rows) (row ∷ [])) ∙ map-append (texts_under first) (map found_in (take i rows)) (found_in row ∷ [])))

-- the kinds that a sampler tells, which was given all rows
pub kinds_told : (sampler : Sampled) (first : FirstLog) (limit : ℕ) (pattern : List Piece) (rows items : List KeptRow) (i : ℕ) (kinds : List Kind)
    → sampler.columns ≡ length first.columns → sampler.limit ≡ limit → sampler.pattern ≡ pattern → StandsFor sampler (map (texts_under first) (map found_in (take i items))) → length items ≤ i → items ≡ rows
    → ((given : List (List (List ℕ))) → StandsFor sampler given → kinds ≡ kinds_of sampler.columns sampler.pattern sampler.limit given) → kinds ≡ kinds_under limit pattern first (map found_in rows)
kinds_told sampler first limit pattern rows items i kinds columns limit_is pattern_is stands all same told =
    let given = map (texts_under first) (map found_in (take i items)) in
    told given stands
    ∙ (ap (λ n. kinds_of n sampler.pattern sampler.limit given) columns
    ∙ (ap (λ p. kinds_of (length first.columns) p sampler.limit given) pattern_is
    ∙ (ap (λ n. kinds_of (length first.columns) pattern n given) limit_is
    ∙ ap (λ t. kinds_of (length first.columns) pattern limit (map (texts_under first) (map found_in t))) (take_all i items all ∙ same))))
