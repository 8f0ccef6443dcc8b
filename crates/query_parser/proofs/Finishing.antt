-- From a reader's answer to the whole list of tokens.
use Rattle.std.proofs.Common.{◌≡◌, ℕ, ◌-◌, ◌+◌, ◌≤◌, Bool, true, false, List, [], ◌∷◌, ◌++◌, length, drop, map, Some, None, slice_get, zero, refl, sym, ◌∙◌, ap, subst, suc, arith, length-append, append_assoc, append-nil}
use Rattle.std.proofs.lemmas.List.{append_cancel_left}
use Rattle.grammar.specs.Trees as model
use Rattle.grammar.specs.Rules.{query}
use Rattle.grammar.specs.Reading.{Outcome, read, failed, Reads, Fails}
use Rattle.grammar.specs.Derivations.{tokens, depth, depth_to}
use Rattle.grammar.specs.Whole.{Derives, NoneNext}
use Rattle.grammar.proofs.Agreeing.{no_empty, same_first}
use Rattle.grammar.proofs.Ending.{whole_ok, whole_only}
use Rattle.grammar.proofs.Heads.{depth_below}
use Rattle.query_lexer.specs.declared.token.Token.{Token as RealToken}
use Rattle.query_tree.specs.Tokens.{seen}
use Rattle.query_parser.specs.Answers.{Stops}
use Rattle.query_parser.specs.Parsed.{SyntaxAt, TooDeepAt, place_in}

-- whether an outcome is a value and nothing left
abbrev Done : Outcome model.Query → model.Query → Type 0
Done (read v []) w = v ≡ w
Done (read v (t ∷ rest)) w = ⊥
Done (failed deep rest) w = ⊥

done_by : (o : Outcome model.Query) (v : model.Query) → o ≡ read v [] → Done o v
done_by o v is = subst (λ (x : Outcome model.Query). Done x v) (sym is) refl

not-suc : (n : ℕ) → suc n ≡ 0 → ⊥
not-suc n is = omega arith

no_token : (t : model.Token) (r : List model.Token) → [] ≡ t ∷ r → ⊥
no_token t r is = cc

same_token : {t u : model.Token} {r s : List model.Token} → t ∷ r ≡ u ∷ s → t ≡ u
same_token {t = t} {u = u} {r = r} {s = s} is = same_first t u r s is

no_length : (all : List model.Token) → length all ≡ 0 → all ≡ []
no_length [] is = refl
no_length (t ∷ ts) is = absurd (not-suc (length ts) is)

drop_front : {A : Type 0} (xs ys : List A) → drop (length xs) (xs ++ ys) ≡ ys
drop_front [] ys = refl
drop_front (x ∷ xs) ys = drop_front xs ys

-- the tokens from which on so many stand
pub behind_is : (all front rest : List model.Token) (count : ℕ) → all ≡ front ++ rest → length rest ≡ count → drop (length all - count) all ≡ rest
behind_is all front rest count split same =
    let size : length all ≡ length front + length rest = ap (λ (l : List model.Token). length l) split ∙ length-append front rest in
    let at : length all - count ≡ length front = omega arith in
    ap (λ (n : ℕ). drop n all) at ∙ ap (λ (l : List model.Token). drop (length front) l) split ∙ drop_front front rest

pub stopped_only : (all : List model.Token) (deep : Bool) (count : ℕ) (v : model.Query) → Stops deep 64 query all count → Derives 64 query all v → ⊥
stopped_only all deep count v is so = done_by (failed deep is.rest) v (whole_only query 64 all (failed deep is.rest) v is.exact.holds so)

pub ended : (all rest : List model.Token) (v : model.Query) → length rest ≡ 0 → Reads 64 query all v rest → Derives 64 query all v
ended all rest v none one = whole_ok query 64 all v (subst (λ (x : List model.Token). Reads 64 query all v x) (no_length rest none) one)

pub ended_only : (all rest : List model.Token) (v w : model.Query) → length rest ≡ 0 → Reads 64 query all v rest → Derives 64 query all w → v ≡ w
ended_only all rest v w none one so = done_by (read v []) w (whole_only query 64 all (read v []) w (subst (λ (x : List model.Token). Reads 64 query all v x) (no_length rest none) one) so)

pub left_only : (all rest : List model.Token) (v w : model.Query) → (length rest ≡ 0 → ⊥) → Reads 64 query all v rest → Derives 64 query all w → ⊥
left_only all [] v w some one so = some refl
left_only all (t ∷ rest) v w some one so = done_by (read v (t ∷ rest)) w (whole_only query 64 all (read v (t ∷ rest)) w one so)

-- with what begins as far as the front and no further, the next token is bad
syntax_next : (all rest : List model.Token) (one : Fails false 64 query all rest) → NoneNext query one.front rest
syntax_next all [] one = λ d is. one.never d [] tt tt (append-nil (tokens d) ∙ is)
syntax_next all (t ∷ rest) one = λ so. one.never so.0 [] tt tt (so.1, append-nil (tokens so.0) ∙ so.2 ∙ append_assoc one.front (t ∷ []) so.1)

-- a fault at the first bad token
pub syntax_is : (all : List model.Token) (count size at : ℕ) → Stops false 64 query all count → at ≡ place_in (drop (length all - count) all) size → SyntaxAt all size at
syntax_is all count size at is place =
    let one = is.exact.holds in
    record {
      front = one.front;
      rest = is.rest;
      split = one.split;
      begun = record { way = one.way; more = one.more; begins_so = one.begins_so; within = one.within };
      none_next = syntax_next all is.rest one;
      place = place ∙ ap (λ (l : List model.Token). place_in l size) (behind_is all one.front is.rest count one.split is.count_is);
    }

-- a fault at the token that opens a level too many
deep_at : (all rest : List model.Token) (size at : ℕ) (one : Fails true 64 query all rest) → at ≡ place_in rest size → TooDeepAt all at
deep_at all [] size at one place = absurd (no_token one.deeper.0 one.deeper.1 one.deeper.3)
deep_at all (t ∷ rest) size at one place =
    let far = one.deeper in
    let same : far.0 ≡ t = sym (same_token far.3) in
    record {
      front = one.front;
      token = t;
      rest = rest;
      split = one.split;
      way = one.way;
      more = far.2;
      begins_so = one.begins_so ∙ ap (λ (x : List model.Token). one.front ++ x) (far.4 ∙ ap (λ (x : model.Token). x ∷ far.2) same);
      within = one.within;
      deeper = far.5;
      none_within = λ d more is held. one.never d [] held tt (more, append-nil (tokens d) ∙ is ∙ append_assoc one.front (t ∷ []) more);
      place = place;
    }

pub deep_is : (all : List model.Token) (count size at : ℕ) → Stops true 64 query all count → at ≡ place_in (drop (length all - count) all) size → TooDeepAt all at
deep_is all count size at is place =
    let one = is.exact.holds in
    deep_at all is.rest size at one (place ∙ ap (λ (l : List model.Token). place_in l size) (behind_is all one.front is.rest count one.split is.count_is))

longer : (front : List model.Token) (t : model.Token) (more : List model.Token) → front ++ (t ∷ more) ≡ front → ⊥
longer front t more is = no_empty t more (append_cancel_left front (t ∷ more) [] (is ∙ sym (append-nil front)))

left_next : (all : List model.Token) (v : model.Query) (t : model.Token) (rest : List model.Token) (one : Reads 64 query all v (t ∷ rest)) → NoneNext query (tokens one.way) (t ∷ rest)
left_next all v t rest one = λ so.
    let text : tokens so.0 ≡ tokens one.way ++ (t ∷ so.1) = so.2 ∙ append_assoc (tokens one.way) (t ∷ []) so.1 in
    let same = one.only so.0 [] tt (so.1, append-nil (tokens so.0) ∙ text) in
    longer (tokens one.way) t so.1 (sym text ∙ same.0)

pub left_is : (all rest : List model.Token) (v : model.Query) (count size at : ℕ) → length rest ≡ count → (count ≡ 0 → ⊥) → Reads 64 query all v rest → at ≡ place_in (drop (length all - count) all) size → SyntaxAt all size at
left_is all [] v count size at same some one place = absurd (some (sym same))
left_is all (t ∷ rest) v count size at same some one place =
    let below : depth_to (length (tokens one.way)) one.way ≤ depth one.way = depth_below (length (tokens one.way)) one.way in
    let held : depth one.way ≤ 64 = one.within in
    record {
      front = tokens one.way;
      rest = t ∷ rest;
      split = one.split;
      begun = record { way = one.way; more = []; begins_so = sym (append-nil (tokens one.way)); within = omega arith };
      none_next = left_next all v t rest one;
      place = place ∙ ap (λ (l : List model.Token). place_in l size) (behind_is all (tokens one.way) (t ∷ rest) count one.split same);
    }

none-some : {A : Type 0} {x : A} → None ≡ Some x → ⊥
none-some is = cc

some_same : {A : Type 0} {x y : A} → Some x ≡ Some y → x ≡ y
some_same is = cc

-- the place of the token at an index
place_some : (items : List RealToken) (i size : ℕ) (t : RealToken) → slice_get items i ≡ Some t → t.at ≡ place_in (drop i (map seen items)) size
place_some [] i size t is = absurd (none-some is)
place_some (x ∷ xs) zero size t is = ap (λ (u : RealToken). u.at) (sym (some_same is))
place_some (x ∷ xs) (suc i) size t is = place_some xs i size t is

place_none : (items : List RealToken) (i size : ℕ) → slice_get items i ≡ None → size ≡ place_in (drop i (map seen items)) size
place_none [] zero size is = refl
place_none [] (suc i) size is = refl
place_none (x ∷ xs) zero size is = absurd (none-some (sym is))
place_none (x ∷ xs) (suc i) size is = place_none xs i size is

pub placed_some : (items : List RealToken) (i n m size : ℕ) (t : RealToken) → n ≡ length items → i ≡ n - m → slice_get items i ≡ Some t → t.at ≡ place_in (drop (length items - m) (map seen items)) size
placed_some items i n m size t one two is =
    let at : i ≡ length items - m = two ∙ ap (λ (k : ℕ). k - m) one in
    place_some items i size t is ∙ ap (λ (k : ℕ). place_in (drop k (map seen items)) size) at

pub placed_none : (items : List RealToken) (i n m size : ℕ) → n ≡ length items → i ≡ n - m → slice_get items i ≡ None → size ≡ place_in (drop (length items - m) (map seen items)) size
placed_none items i n m size one two is =
    let at : i ≡ length items - m = two ∙ ap (λ (k : ℕ). k - m) one in
    place_none items i size is ∙ ap (λ (k : ℕ). place_in (drop k (map seen items)) size) at
