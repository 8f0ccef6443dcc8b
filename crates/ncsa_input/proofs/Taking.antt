-- What a part takes from the front of a text.
use Rattle.std.proofs.Common.{◌≡◌, ℕ, suc, ◌+◌, ◌-◌, ◌<◌, ◌≤◌, true, false, ◌==◌, List, [], ◌∷◌, length, take, drop, get_or, Option, Some, None, option_map, option_and_then, position, refl, sym, ap, subst, ◌∙◌, inl, inr, arith, rules, tests, eq-eqb}
use Rattle.std.proofs.lemmas.Bool.{cases_Bool, eqb-true}
use Rattle.std.proofs.lemmas.Bool.Decides.{nat_tests}
use Rattle.byte_masks.specs.declared.set.ByteSet.{ByteSet}
use Rattle.byte_masks.specs.Places.{is_in, IsNextPlace}
use Rattle.std.proofs.lemmas.List.{drop-drop, length-drop, drop_more, drop_all, get_or-drop}
use Rattle.std.proofs.lemmas.List.Sums.{passes_at_first}
use Rattle.std.specs.List.{position_or_len, prefix_len}
use Rattle.std.specs.Prelude.{◌≢◌}
use Rattle.ncsa_input.specs.declared.shape.Shape.{Shape}
use Rattle.ncsa_input.specs.declared.shape.Shape.TheVariants.{Word, Bracketed, Quoted}
use Rattle.ncsa_input.specs.Lines.{is_space, behind_spaces}
use Rattle.ncsa_input.specs.Pieces.{IsPiece, enclosed}
use Rattle.ncsa_input.specs.Shapes.{behind, closed_at, closing, taken}

-- ---- words

pub word_none : (line : List ℕ) (at size : ℕ) → size ≡ position_or_len is_space (drop at line) → size ≡ 0 → taken Word (drop at line) ≡ None
unfolding taken
word_none line at size e none =
    let zero : (position_or_len is_space (drop at line) == 0) ≡ true = eq-eqb (position_or_len is_space (drop at line)) 0 (sym e ∙ none) in
    rw zero refl

pub word_taken : (text : List ℕ) (size : ℕ) → size ≡ position_or_len is_space text → size ≢ 0 → taken Word text ≡ Some (take size text, drop size text)
unfolding taken
word_taken text size e some =
    let more : (position_or_len is_space text == 0) ≡ false = search (rules, tests) in
    rw more (ap (λ n. Some (take n text, drop n text)) (sym e))

pub word_piece : (line : List ℕ) (at size : ℕ) → size ≡ position_or_len is_space (drop at line) → size ≢ 0 → at ≤ length line → size ≤ length (drop at line)
    → IsPiece Word line at (record { bytes = record { from = at; to = at + size }; end = at + size })
word_piece line at size e some within fits =
    let cut : (at + size) - at ≡ size = omega arith in
    record {
      ahead = omega arith;
      within = omega (arith, length-drop at line);
      takes = word_taken (drop at line) size e some ∙ rw (cut, drop-drop size at line) refl;
    }

-- ---- parts that a byte opens and one closes

pub opened : (opening : ℕ) (text inner : List ℕ) → Some inner ≡ behind opening text → text ≡ opening ∷ inner
opened opening [] inner e = absurd cc
opened opening (b ∷ bs) inner e =
    elim (cases_Bool (b == opening)) [
      | inl is ↦ let same : Some inner ≡ Some bs = e ∙ rw is refl in let first : b ≡ opening = eqb-true b opening is in cc
      | inr other ↦ let none : Some inner ≡ None = e ∙ rw other refl in absurd cc
    ]

sum : (a b : ℕ) → a + 1 + b + 1 ≡ a + 1 + (b + 1)
sum a b = omega arith

pub enclosed_piece : (shape : Shape) (line : List ℕ) (at size opening : ℕ) (text inner : List ℕ) → text ≡ drop at line → Some inner ≡ behind opening text → taken shape text ≡ closed_at inner (Some size) → at ≤ length line → size < length inner
    → IsPiece shape line at (enclosed at size)
enclosed_piece shape line at size opening text inner here open_ takes within fits =
    let e : drop at line ≡ opening ∷ inner = sym here ∙ opened opening text inner open_ in
    let cut : (at + 1 + size) - (at + 1) ≡ size = omega arith in
    let rest_of : drop (at + 1) line ≡ inner = sym (drop-drop 1 at line) ∙ ap (drop 1) e in
    let rest : drop (at + 1 + size + 1) line ≡ drop (size + 1) inner =
    ap (λ n. drop n line) (sum at size) ∙ (sym (drop-drop (size + 1) (at + 1) line) ∙ ap (drop (size + 1)) rest_of) in
    record {
      ahead = omega arith;
      within = omega (arith, length-drop at line, ap length e);
      takes = ap (taken shape) (sym here) ∙ (takes ∙ rw (cut, rest_of, rest) refl);
    }

pub bracket_taken : (text inner : List ℕ) (place : Option ℕ) → Some inner ≡ behind 91 text → place ≡ position (λ b. b == 93) inner → taken Bracketed text ≡ closed_at inner place
unfolding taken
bracket_taken text inner place open_ e = ap (option_and_then (λ t. closed_at t (position (λ b. b == 93) t))) (sym open_) ∙ ap (closed_at inner) (sym e)

pub bracket_none : (text : List ℕ) → None ≡ behind 91 text → taken Bracketed text ≡ None
unfolding taken
bracket_none text none = ap (option_and_then (λ t. closed_at t (position (λ b. b == 93) t))) (sym none)

pub quote_taken : (text inner : List ℕ) (place : Option ℕ) → Some inner ≡ behind 34 text → place ≡ closing inner → taken Quoted text ≡ closed_at inner place
unfolding taken
quote_taken text inner place open_ e = ap (option_and_then (λ t. closed_at t (closing t))) (sym open_) ∙ ap (closed_at inner) (sym e)

pub quote_none : (text : List ℕ) → None ≡ behind 34 text → taken Quoted text ≡ None
unfolding taken
quote_none text none = ap (option_and_then (λ t. closed_at t (closing t))) (sym none)

-- ---- the quote that ends a part

pub closing_quote : (b : ℕ) (rest : List ℕ) → b ≡ 34 → closing (b ∷ rest) ≡ Some 0
closing_quote b [] e = let is : (b == 34) ≡ true = eq-eqb b 34 e in rw is refl
closing_quote b (c ∷ bs) e = let is : (b == 34) ≡ true = eq-eqb b 34 e in rw is refl

pub closing_back : (b : ℕ) (rest : List ℕ) → b ≡ 92 → closing (b ∷ rest) ≡ option_map (λ n. n + 2) (closing (drop 1 rest))
closing_back b [] e = let no : (b == 34) ≡ false = search (rules, tests) in rw no refl
closing_back b (c ∷ bs) e =
    let no : (b == 34) ≡ false = search (rules, tests) in
    let is : (b == 92) ≡ true = eq-eqb b 92 e in
    rw (no, is) refl

pub closing_other : (b : ℕ) (rest : List ℕ) → b ≢ 34 → b ≢ 92 → closing (b ∷ rest) ≡ option_map (λ n. n + 1) (closing rest)
closing_other b [] quote back = let no : (b == 34) ≡ false = search (rules, tests) in rw no refl
closing_other b (c ∷ bs) quote back =
    let no : (b == 34) ≡ false = search (rules, tests) in
    let nor : (b == 92) ≡ false = search (rules, tests) in
    rw (no, nor) refl

shifted : (at k : ℕ) (r : Option ℕ) → option_map (λ n. at + n) (option_map (λ n. n + k) r) ≡ option_map (λ n. at + k + n) r
shifted at k None = refl
shifted at k (Some n) = ap Some (omega arith)

pub closing_start : (text : List ℕ) → closing text ≡ option_map (λ n. 0 + n) (closing text)
closing_start text = same (closing text)
  where
    same : (r : Option ℕ) → r ≡ option_map (λ n. 0 + n) r
    same None = refl
    same (Some n) = ap Some (omega arith)

pub closing_found : (text : List ℕ) (at : ℕ) → at < length text → get_or text at 0 ≡ 34 → closing text ≡ option_map (λ n. at + n) (closing (drop at text)) → closing text ≡ Some at
closing_found text at within is e =
    let sum : at + 0 ≡ at = omega arith in
    e ∙ (ap (λ t. option_map (λ n. at + n) (closing t)) (drop_more text at 0 within)
    ∙ (ap (option_map (λ n. at + n)) (closing_quote (get_or text at 0) (drop (at + 1) text) is) ∙ ap Some sum))

pub closing_behind : (text : List ℕ) (at : ℕ) → at < length text → get_or text at 0 ≡ 92 → closing text ≡ option_map (λ n. at + n) (closing (drop at text)) → closing text ≡ option_map (λ n. at + 2 + n) (closing (drop (at + 2) text))
closing_behind text at within is e =
    let there : drop 1 (drop (at + 1) text) ≡ drop (at + 2) text = drop-drop 1 (at + 1) text ∙ ap (λ n. drop n text) (sum at) in
    e ∙ (ap (λ t. option_map (λ n. at + n) (closing t)) (drop_more text at 0 within)
    ∙ (ap (option_map (λ n. at + n)) (closing_back (get_or text at 0) (drop (at + 1) text) is ∙ ap (λ t. option_map (λ n. n + 2) (closing t)) there)
    ∙ shifted at 2 (closing (drop (at + 2) text))))
  where
    sum : (a : ℕ) → a + 1 + 1 ≡ a + 2
    sum a = omega arith

pub closing_more : (text : List ℕ) (at : ℕ) → at < length text → get_or text at 0 ≢ 34 → get_or text at 0 ≢ 92 → closing text ≡ option_map (λ n. at + n) (closing (drop at text)) → closing text ≡ option_map (λ n. at + 1 + n) (closing (drop (at + 1) text))
closing_more text at within quote back e =
    e ∙ (ap (λ t. option_map (λ n. at + n) (closing t)) (drop_more text at 0 within)
    ∙ (ap (option_map (λ n. at + n)) (closing_other (get_or text at 0) (drop (at + 1) text) quote back)
    ∙ shifted at 1 (closing (drop (at + 1) text))))

-- at a mark stands a quote or a backslash
abbrev marks : ByteSet
marks = record { first = 34; second = 92 }

up_to_mark : (text : List ℕ) → closing text ≡ option_map (λ n. position_or_len (is_in marks) text + n) (closing (drop (position_or_len (is_in marks) text) text))
up_to_mark [] = refl
up_to_mark (b ∷ bs) =
    let k : ℕ = position_or_len (is_in marks) bs in
    let one : 1 + k ≡ suc k = omega arith in
    elim (cases_Bool (is_in marks b)) [
      | inl e ↦ rw e (closing_start (b ∷ bs))
      | inr e ↦ rw (e, one) (closing_other b bs (no_quote b e) (no_back b e) ∙ (ap (option_map (λ n. n + 1)) (up_to_mark bs) ∙ counted k (closing (drop k bs))))
    ]
  where
    no_quote : (b : ℕ) → is_in marks b ≡ false → b ≢ 34
    no_quote b e is = let yes : (b == 34) ≡ true = eq-eqb b 34 is in let told : true ≡ false = rw yes at e in absurd cc

    no_back : (b : ℕ) → is_in marks b ≡ false → b ≢ 92
    no_back b e is = grind (arith, nat_tests)

    counted : (k : ℕ) (r : Option ℕ) → option_map (λ n. n + 1) (option_map (λ n. k + n) r) ≡ option_map (λ n. suc k + n) r
    counted k None = refl
    counted k (Some n) = ap Some (omega arith)

-- the search goes on from the next mark
pub closing_at_mark : (text : List ℕ) (at mark : ℕ) → mark ≡ at + position_or_len (is_in marks) (drop at text) → closing text ≡ option_map (λ n. at + n) (closing (drop at text)) → closing text ≡ option_map (λ n. mark + n) (closing (drop mark text))
closing_at_mark text at mark is e =
    let k = position_or_len (is_in marks) (drop at text) in
    let there : drop k (drop at text) ≡ drop mark text = drop-drop k at text ∙ ap (λ n. drop n text) (sym is) in
    e ∙ (ap (option_map (λ n. at + n)) (up_to_mark (drop at text) ∙ ap (λ t. option_map (λ n. k + n) (closing t)) there) ∙ further at k mark is (closing (drop mark text)))
  where
    further : (at k mark : ℕ) → mark ≡ at + k → (r : Option ℕ) → option_map (λ n. at + n) (option_map (λ n. k + n) r) ≡ option_map (λ n. mark + n) r
    further at k mark is None = refl
    further at k mark is (Some n) = ap Some (omega arith)

-- a mark that is no quote is a backslash
pub other_mark : (text : List ℕ) (at mark : ℕ) → IsNextPlace (is_in marks) text at mark → get_or text mark 0 ≢ 34 → get_or text mark 0 ≡ 92
other_mark text at mark next other =
    let k = position_or_len (is_in marks) (drop at text) in
    let passes = passes_at_first (is_in marks) (drop at text) 0 (omega (arith, next.0, next.1, length-drop at text)) in
    let there : get_or (drop at text) k 0 ≡ get_or text mark 0 = get_or-drop at text k 0 ∙ ap (λ n. get_or text n 0) (sym next.0) in
    backslash (get_or text mark 0) (subst (λ (b : ℕ). is_in marks b ≡ true) there passes) other
  where
    backslash : (b : ℕ) → is_in marks b ≡ true → b ≢ 34 → b ≡ 92
    backslash b e other = grind (arith, nat_tests)

-- without a mark there is no end
pub closing_unmarked : (text : List ℕ) (at : ℕ) → length (drop at text) ≤ position_or_len (is_in marks) (drop at text) → closing text ≡ option_map (λ n. at + n) (closing (drop at text)) → closing text ≡ None
closing_unmarked text at none e =
    e ∙ ap (option_map (λ n. at + n)) (up_to_mark (drop at text) ∙ ap (λ t. option_map (λ n. position_or_len (is_in marks) (drop at text) + n) (closing t)) (drop_all (position_or_len (is_in marks) (drop at text)) (drop at text) none))

pub closing_none : (text : List ℕ) (at : ℕ) → length text ≤ at → closing text ≡ option_map (λ n. at + n) (closing (drop at text)) → closing text ≡ None
closing_none text at past e = e ∙ ap (λ t. option_map (λ n. at + n) (closing t)) (drop_all at text past)

-- ---- spaces

pub one_more : (n : ℕ) → 1 + n ≡ suc n
one_more n = omega arith

spaces_some : (text : List ℕ) → 0 < prefix_len is_space text → behind_spaces text ≡ Some (drop (prefix_len is_space text) text)
spaces_some [] some = absurd (omega arith)
spaces_some (b ∷ bs) some =
    elim (cases_Bool (is_space b)) [
      | inl e ↦ rw (e, one_more) refl
      | inr e ↦ let none : 0 < 0 = rw e at some in absurd (omega arith)
    ]

spaces_none : (text : List ℕ) → prefix_len is_space text ≡ 0 → behind_spaces text ≡ None
spaces_none [] none = refl
spaces_none (b ∷ bs) none =
    elim (cases_Bool (is_space b)) [
      | inl e ↦ let some : 1 + prefix_len is_space bs ≡ 0 = rw e at none in absurd (omega arith)
      | inr e ↦ rw e refl
    ]

pub behind_none : (text : List ℕ) (size : ℕ) → size ≡ prefix_len is_space text → size ≡ 0 → behind_spaces text ≡ None
behind_none text size e none = spaces_none text (sym e ∙ none)

pub behind_some : (line : List ℕ) (at size : ℕ) → size ≡ prefix_len is_space (drop at line) → size ≢ 0 → at ≤ length line → size ≤ length (drop at line)
    → (behind_spaces (drop at line) ≡ Some (drop (at + size) line)) × (at + size ≤ length line)
behind_some line at size e some within fits =
    (spaces_some (drop at line) (omega (arith, e)) ∙ (ap (λ n. Some (drop n (drop at line))) (sym e) ∙ ap Some (drop-drop size at line)), omega (arith, length-drop at line))
