-- A string, from quote to quote.
use Rattle.std.proofs.Common.{◌≡◌, ℕ, zero, suc, ◌+◌, ◌≤◌, ◌<◌, ◌==◌, Bool, true, false, List, [], ◌∷◌, ◌++◌, length, take, drop, get_or, Some, None, refl, sym, ◌∙◌, ap, ap₂, subst, arith, append_assoc, length-append, take-append-drop}
use Rattle.std.proofs.lemmas.List.{drop_more}
use Rattle.std.proofs.lemmas.Bool.{eq-eqb, eqb-true, false≢true, false_from_ne_true}
use Rattle.std.proofs.lemmas.List.{take_all}
use Rattle.memchr.specs.Find.{IsFirstByte, is_byte}
use Rattle.query_lexer.specs.Standing.{doubled, is_quote_first, IsString, IsNoString}

-- none of these bytes is a quote
abbrev pub NoQuotes : List ℕ → Type 0
NoQuotes [] = Unit {0}
NoQuotes (b ∷ bs) = ((b == 39) ≡ false) × NoQuotes bs

pub doubled_append : (xs ys : List ℕ) → doubled (xs ++ ys) ≡ doubled xs ++ doubled ys
doubled_append [] ys = refl
doubled_append (x ∷ xs) ys = doubled_append_by x (x == 39) xs ys refl (doubled_append xs ys)
  where
    doubled_append_by : (x : ℕ) (is : Bool) (xs ys : List ℕ) → (x == 39) ≡ is → doubled (xs ++ ys) ≡ doubled xs ++ doubled ys → doubled (x ∷ xs ++ ys) ≡ doubled (x ∷ xs) ++ doubled ys
    doubled_append_by x true xs ys is more = rw (is, more) refl
    doubled_append_by x false xs ys is more = rw (is, more) refl

pub doubled_plain : (bs : List ℕ) → NoQuotes bs → doubled bs ≡ bs
doubled_plain [] none' = refl
doubled_plain (b ∷ bs) none' = rw (none'.0, doubled_plain bs none'.1) refl

pub no_quotes : (bs : List ℕ) (n : ℕ) → n ≤ length bs → ((i : ℕ) → i < n → (get_or bs i 0 == 39) ≡ false) → NoQuotes (take n bs)
no_quotes bs zero le each = tt
no_quotes [] (suc n) le each = absurd (omega arith)
no_quotes (b ∷ bs) (suc n) le each = (each 0 (omega arith), no_quotes bs n (omega arith) (λ i lt. each (suc i) (omega arith)))

-- a quote behind bytes that are none
pub string_piece : (all text : List ℕ) (at n : ℕ) → all ≡ 39 ∷ doubled text ++ drop at all → n < length (drop at all) → get_or (drop at all) n 0 ≡ 39 → NoQuotes (take n (drop at all))
    → all ≡ 39 ∷ doubled (text ++ take n (drop at all)) ++ 39 ∷ drop (n + 1) (drop at all)
string_piece all text at n split lt is none' =
    split ∙ ap (λ (x : List ℕ). 39 ∷ doubled text ++ x) (sym (take-append-drop n (drop at all)) ∙ ap (λ (x : List ℕ). take n (drop at all) ++ x) (drop_more (drop at all) n 0 lt ∙ ap (λ (b : ℕ). b ∷ drop (n + 1) (drop at all)) is))
    ∙ ap (λ (x : List ℕ). 39 ∷ x) (sym (append_assoc (doubled text) (take n (drop at all)) _)
    ∙ ap (λ (x : List ℕ). x ++ 39 ∷ drop (n + 1) (drop at all)) (ap (λ (x : List ℕ). doubled text ++ x) (sym (doubled_plain _ none')) ∙ sym (doubled_append text (take n (drop at all)))))

-- the text that goes on has a quote more
pub string_doubled : (all text rest : List ℕ) → all ≡ 39 ∷ doubled text ++ 39 ∷ 39 ∷ rest → all ≡ 39 ∷ doubled (text ++ 39 ∷ []) ++ rest
string_doubled all text rest split = split ∙ ap (λ (x : List ℕ). 39 ∷ x) (sym (append_assoc (doubled text) (39 ∷ 39 ∷ []) rest) ∙ ap (λ (x : List ℕ). x ++ rest) (sym (doubled_append text (39 ∷ []))))

-- no quote stands in the end of what has one
no_end : (xs rest : List ℕ) → NoQuotes (xs ++ 39 ∷ rest) → ⊥
no_end [] rest none' = false≢true (sym none'.0)
no_end (x ∷ xs) rest none' = no_end xs rest none'.1

list_head : {a b : ℕ} {xs ys : List ℕ} → a ∷ xs ≡ b ∷ ys → a ≡ b
list_head {a} e = ap (λ (x : List ℕ). get_or x 0 0) e

list_tail : {a b : ℕ} {xs ys : List ℕ} → a ∷ xs ≡ b ∷ ys → xs ≡ ys
list_tail e = ap (λ (x : List ℕ). drop 1 x) e

doubled_yes : (y : ℕ) (ys : List ℕ) → (y == 39) ≡ true → doubled (y ∷ ys) ≡ 39 ∷ 39 ∷ doubled ys
doubled_yes y ys is = rw is refl

doubled_no : (y : ℕ) (ys : List ℕ) → (y == 39) ≡ false → doubled (y ∷ ys) ≡ y ∷ doubled ys
doubled_no y ys is = rw is refl

quote_first : (r xs : List ℕ) → is_quote_first r ≡ false → r ≡ 39 ∷ xs → ⊥
quote_first r xs none' e = false≢true (sym none' ∙ ap (λ (x : List ℕ). is_quote_first x) e)

-- an end is no text that goes on
no_start : (y : ℕ) (b : Bool) (ys r rest : List ℕ) → (y == 39) ≡ b → is_quote_first r ≡ false → 39 ∷ r ≡ doubled (y ∷ ys) ++ rest → ⊥
no_start y true ys r rest is none' e = quote_first r _ none' (list_tail (e ∙ ap (λ (x : List ℕ). x ++ rest) (doubled_yes y ys is)))
no_start y false ys r rest is none' e = false≢true (sym is ∙ eq-eqb y 39 (sym (list_head (e ∙ ap (λ (x : List ℕ). x ++ rest) (doubled_no y ys is)))))

-- two texts that go on
both_go_on : (x y : ℕ) (b c : Bool) (xs ys r s : List ℕ) → (x == 39) ≡ b → (y == 39) ≡ c → doubled (x ∷ xs) ++ r ≡ doubled (y ∷ ys) ++ s → (x ≡ y) × (doubled xs ++ r ≡ doubled ys ++ s)
both_go_on x y true true xs ys r s one two e =
    let both : 39 ∷ 39 ∷ doubled xs ++ r ≡ 39 ∷ 39 ∷ doubled ys ++ s = sym (ap (λ (z : List ℕ). z ++ r) (doubled_yes x xs one)) ∙ e ∙ ap (λ (z : List ℕ). z ++ s) (doubled_yes y ys two) in
    (eqb-true x 39 one ∙ sym (eqb-true y 39 two), list_tail (list_tail both))
both_go_on x y true false xs ys r s one two e =
    let both : 39 ∷ 39 ∷ doubled xs ++ r ≡ y ∷ doubled ys ++ s = sym (ap (λ (z : List ℕ). z ++ r) (doubled_yes x xs one)) ∙ e ∙ ap (λ (z : List ℕ). z ++ s) (doubled_no y ys two) in
    absurd (false≢true (sym two ∙ eq-eqb y 39 (sym (list_head both))))
both_go_on x y false true xs ys r s one two e =
    let both : x ∷ doubled xs ++ r ≡ 39 ∷ 39 ∷ doubled ys ++ s = sym (ap (λ (z : List ℕ). z ++ r) (doubled_no x xs one)) ∙ e ∙ ap (λ (z : List ℕ). z ++ s) (doubled_yes y ys two) in
    absurd (false≢true (sym one ∙ eq-eqb x 39 (list_head both)))
both_go_on x y false false xs ys r s one two e =
    let both : x ∷ doubled xs ++ r ≡ y ∷ doubled ys ++ s = sym (ap (λ (z : List ℕ). z ++ r) (doubled_no x xs one)) ∙ e ∙ ap (λ (z : List ℕ). z ++ s) (doubled_no y ys two) in
    (list_head both, list_tail both)

texts_same : (t u r s : List ℕ) → is_quote_first r ≡ false → is_quote_first s ≡ false → doubled t ++ 39 ∷ r ≡ doubled u ++ 39 ∷ s → t ≡ u
texts_same [] [] r s one two e = refl
texts_same [] (y ∷ ys) r s one two e = absurd (no_start y (y == 39) ys r (39 ∷ s) refl one e)
texts_same (x ∷ xs) [] r s one two e = absurd (no_start x (x == 39) xs s (39 ∷ r) refl two (sym e))
texts_same (x ∷ xs) (y ∷ ys) r s one two e =
    let p = both_go_on x y (x == 39) (y == 39) xs ys (39 ∷ r) (39 ∷ s) refl refl e in
    ap₂ (λ (z : ℕ) (zs : List ℕ). z ∷ zs) p.0 (texts_same xs ys r s one two p.1)

no_text : (t u rest s : List ℕ) → NoQuotes rest → is_quote_first s ≡ false → doubled t ++ rest ≡ doubled u ++ 39 ∷ s → ⊥
no_text [] u rest s none' two e = no_end (doubled u) s (subst NoQuotes e none')
no_text (x ∷ xs) [] rest s none' two e = no_start x (x == 39) xs s rest refl two (sym e)
no_text (x ∷ xs) (y ∷ ys) rest s none' two e = no_text xs ys rest s none' two (both_go_on x y (x == 39) (y == 39) xs ys rest (39 ∷ s) refl refl e).1

-- a text begins with one string at most
pub string_once : (all t u : List ℕ) (m n : ℕ) → IsString all t m → IsString all u n → (t ≡ u) × (m ≡ n)
string_once all t u m n one two =
    let same : t ≡ u = texts_same t u one.0 two.0 one.2 two.2 (list_tail (sym one.1 ∙ two.1)) in
    (same, one.3 ∙ ap (λ (x : List ℕ). length (doubled x) + 2) same ∙ sym two.3)

pub string_none : (all text rest : List ℕ) → all ≡ 39 ∷ doubled text ++ rest → NoQuotes rest → IsNoString all
string_none all text rest split none' = λ u n two. no_text text u rest two.0 none' two.2 (list_tail (sym split ∙ two.1))

pub string_ends : (all text rest : List ℕ) (at : ℕ) → all ≡ 39 ∷ doubled text ++ 39 ∷ rest → is_quote_first rest ≡ false → length all ≡ at + length rest → IsString all text at
string_ends all text rest at split none' size =
    let whole : length all ≡ length (39 ∷ doubled text ++ 39 ∷ rest) = ap (λ (x : List ℕ). length x) split in
    let parts : length (doubled text ++ 39 ∷ rest) ≡ length (doubled text) + length (39 ∷ rest) = length-append (doubled text) (39 ∷ rest) in
    (rest, split, none', omega arith)

-- up to the first quote there is none
pub first_quote : (hay : List ℕ) (n : ℕ) → IsFirstByte (is_byte 39) hay (Some n) → (n < length hay) × (get_or hay n 0 ≡ 39) × NoQuotes (take n hay)
first_quote hay n found = (found.0.high, eqb-true _ 39 found.1, no_quotes hay n (omega (arith, found.0.high)) (λ i lt. false_from_ne_true _ (found.0.before i (omega arith) lt)))

pub no_quote : (hay : List ℕ) → IsFirstByte (is_byte 39) hay None → NoQuotes hay
no_quote hay nowhere = subst NoQuotes (take_all (length hay) hay (omega arith)) (no_quotes hay (length hay) (omega arith) (λ i lt. false_from_ne_true _ (nowhere i (omega arith) lt)))

pub string_begins : (all : List ℕ) → get_or all 0 0 ≡ 39 → all ≡ 39 ∷ drop 1 all
string_begins [] is = absurd (omega arith)
string_begins (b ∷ bs) is = ap (λ (x : ℕ). x ∷ bs) is

pub quote_is : (bs : List ℕ) → is_quote_first bs ≡ true → bs ≡ 39 ∷ drop 1 bs
quote_is [] is = absurd (false≢true is)
quote_is (b ∷ bs) is = ap (λ (x : ℕ). x ∷ bs) (eqb-true b 39 is)

pub quote_there : (all : List ℕ) (k : ℕ) → is_quote_first (drop k all) ≡ true → (k < length all) × (get_or all k 0 ≡ 39)
quote_there [] zero is = absurd (false≢true is)
quote_there [] (suc k) is = absurd (false≢true is)
quote_there (x ∷ xs) zero is = (omega arith, eqb-true x 39 is)
quote_there (x ∷ xs) (suc k) is = let p = quote_there xs k is in (omega (arith, p.0), p.1)
