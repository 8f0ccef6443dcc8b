-- The fields that are read of a line may stand there and are spelled there, in order, and the line is nothing else.
use Rattle.std.proofs.Common.{◌≡◌, ℕ, suc, ◌+◌, ◌<◌, Bool, true, false, cond, ◌==◌, List, [], ◌∷◌, ◌++◌, length, take, drop, replicate, get_or, Option, Some, None, option_map, option_and_then, position, nat_lt, refl, sym, ap, ◌∙◌, subst, inl, inr, arith, eq-eqb}
use Rattle.std.proofs.lemmas.Bool.{cases_Bool, eqb-true, ltb-true}
use Rattle.std.proofs.lemmas.List.{append-nil, append_assoc, length-append, get_or-append-add, take-append-drop, drop_more}
use Rattle.std.proofs.lemmas.List.Sums.{passes_at_first}
use Rattle.std.specs.Bool.{⊤}
use Rattle.std.specs.List.{position_or_len, prefix_len}
use Rattle.std.specs.Prelude.{◌≢◌}
use Rattle.ncsa_input.specs.declared.shape.Shape.{Shape}
use Rattle.ncsa_input.specs.declared.shape.Shape.TheVariants.{Word, Bracketed, Quoted}
use Rattle.ncsa_input.specs.Lines.{is_space, may_end, behind_spaces, fields_behind}
use Rattle.ncsa_input.specs.Shapes.{behind, closed_at, closing, taken, Taken}
use Rattle.ncsa_input.specs.Form.{in_brackets, in_quotes}
use Rattle.ncsa_input.proofs.Fitting.{Fits, first_is, taken_fits}
use Rattle.ncsa_input.proofs.Rows.{none_there, ends_there, unparted, goes_on}
use Rattle.ncsa_input.proofs.Taking.{opened, one_more}

-- a part as it stands in a line
abbrev pub spelled : Shape → List ℕ → List ℕ
spelled Word field = field
spelled Bracketed field = in_brackets field
spelled Quoted field = in_quotes field

-- the text is these parts of these shapes, one or more spaces apart
abbrev pub IsJoined : List Shape → List (List ℕ) → List ℕ → Type 0
IsJoined [] fields text = ⊥
IsJoined (shape ∷ shapes) [] text = ⊥
IsJoined (shape ∷ shapes) (field ∷ []) text = text ≡ spelled shape field
IsJoined (shape ∷ shapes) (field ∷ next ∷ fields) text = (more : ℕ) × ((rest : List ℕ) × ((text ≡ spelled shape field ++ (replicate (more + 1) 32 ++ rest)) × IsJoined shapes (next ∷ fields) rest))

-- each part may stand there
abbrev pub AreFit : List Shape → List (List ℕ) → Type 0
AreFit shapes [] = ⊤
AreFit [] (field ∷ fields) = ⊥
AreFit (shape ∷ shapes) (field ∷ fields) = Fits shape field × AreFit shapes fields

-- what was left
second_is : (a b : List ℕ × List ℕ) → Some a ≡ Some b → a.1 ≡ b.1
second_is a b e = ap (λ (p : List ℕ × List ℕ). p.1) (some_is a b e)
  where
    some_is : (a b : List ℕ × List ℕ) → Some a ≡ Some b → a ≡ b
    some_is a b e = cc

-- a text is what stands before a place, the byte there, and what stands behind it
split_there : (text : List ℕ) (at b : ℕ) → at < length text → get_or text at 0 ≡ b → text ≡ take at text ++ (b ∷ drop (at + 1) text)
split_there text at b within e = sym (take-append-drop at text) ∙ ap (λ t. take at text ++ t) (drop_more text at 0 within ∙ ap (λ c. c ∷ drop (at + 1) text) e)

-- the part in front of a closing byte
closed_spelled : (inner field rest : List ℕ) (at close : ℕ) → at < length inner → get_or inner at 0 ≡ close → closed_at inner (Some at) ≡ Some (field, rest) → inner ≡ (field ++ close ∷ []) ++ rest
closed_spelled inner field rest at close within e parts =
    split_there inner at close within e
    ∙ (ap (λ t. t ++ (close ∷ drop (at + 1) inner)) (first_is (take at inner, drop (at + 1) inner) (field, rest) parts)
    ∙ (ap (λ t. field ++ (close ∷ t)) (second_is (take at inner, drop (at + 1) inner) (field, rest) parts)
    ∙ sym (append_assoc field (close ∷ []) rest)))

-- a place that is found
position_at : (inner : List ℕ) (at : ℕ) → position (λ b. b == 93) inner ≡ Some at → (at < length inner) × (get_or inner at 0 ≡ 93)
position_at inner at e =
    elim (cases_Bool (nat_lt (position_or_len (λ b. b == 93) inner) (length inner))) [
      | inl found ↦
          let within = ltb-true (position_or_len (λ b. b == 93) inner) (length inner) found in
          let place : position_or_len (λ b. b == 93) inner ≡ at = let h : Some (position_or_len (λ b. b == 93) inner) ≡ Some at = rw found at e in cc in
          let passes = passes_at_first (λ b. b == 93) inner 0 within in
          subst (λ (n : ℕ). (n < length inner) × (get_or inner n 0 ≡ 93)) place (within, eqb-true (get_or inner (position_or_len (λ b. b == 93) inner) 0) 93 passes)
      | inr lost ↦ let h : None ≡ Some at = rw lost at e in absurd cc
    ]

-- a quote behind other bytes
shifted_at : (front rest : List ℕ) (k at : ℕ) (r : Option ℕ) → length front ≡ k → ((n : ℕ) → r ≡ Some n → (n < length rest) × (get_or rest n 0 ≡ 34)) → option_map (λ n. n + k) r ≡ Some at
    → (at < length (front ++ rest)) × (get_or (front ++ rest) at 0 ≡ 34)
shifted_at front rest k at None size found h = absurd cc
shifted_at front rest k at (Some n) size found h =
    let there : n + k ≡ at = cc in
    let both = found n refl in
    let place : at ≡ length front + n = omega arith in
    (omega (arith, length-append front rest, both.0), ap (λ m. get_or (front ++ rest) m 0) place ∙ (get_or-append-add front rest n 0 ∙ both.1))

-- the quote that ends a part stands at its place
closing_at : (text : List ℕ) (at : ℕ) → closing text ≡ Some at → (at < length text) × (get_or text at 0 ≡ 34)
closing_at [] at e = absurd cc
closing_at (b ∷ []) at e =
    elim (cases_Bool (b == 34)) [
      | inl quote ↦ let place : at ≡ 0 = let h : Some 0 ≡ Some at = sym (rw quote refl) ∙ e in cc in rw place (omega arith, eqb-true b 34 quote)
      | inr other ↦ let h : None ≡ Some at = rw other at e in absurd cc
    ]
closing_at (b ∷ c ∷ bs) at e =
    elim (cases_Bool (b == 34)) [
      | inl quote ↦ let h : Some 0 ≡ Some at = rw quote at e in let place : at ≡ 0 = cc in rw place (omega arith, eqb-true b 34 quote)
      | inr other ↦ elim (cases_Bool (b == 92)) [
        | inl back ↦ let h : option_map (λ n. n + 2) (closing bs) ≡ Some at = rw (other, back) at e in shifted_at (b ∷ c ∷ []) bs 2 at (closing bs) refl (closing_at bs) h
        | inr plain ↦ let h : option_map (λ n. n + 1) (closing (c ∷ bs)) ≡ Some at = rw (other, plain) at e in shifted_at (b ∷ []) (c ∷ bs) 1 at (closing (c ∷ bs)) refl (closing_at (c ∷ bs)) h
      ]
    ]

-- a part that two bytes enclose is spelled at the front
enclosed_spelled : (opening close : ℕ) (text field rest : List ℕ) (place : List ℕ → Option ℕ) → ((inner : List ℕ) (at : ℕ) → place inner ≡ Some at → (at < length inner) × (get_or inner at 0 ≡ close))
    → (before : Option (List ℕ)) → behind opening text ≡ before → option_and_then (λ inner. closed_at inner (place inner)) before ≡ Some (field, rest) → text ≡ (opening ∷ (field ++ close ∷ [])) ++ rest
enclosed_spelled opening close text field rest place finds None e h = absurd cc
enclosed_spelled opening close text field rest place finds (Some inner) e h = at_place (place inner) refl h
  where
    at_place : (r : Option ℕ) → place inner ≡ r → closed_at inner r ≡ Some (field, rest) → text ≡ (opening ∷ (field ++ close ∷ [])) ++ rest
    at_place None found told = absurd cc
    at_place (Some at) found told =
        let there = finds inner at found in
        opened opening text inner (sym e) ∙ ap (λ t. opening ∷ t) (closed_spelled inner field rest at close there.0 there.1 told)

-- what a part takes is spelled at the front
taken_spelled : (shape : Shape) (text field rest : List ℕ) → taken shape text ≡ Some (field, rest) → text ≡ spelled shape field ++ rest
unfolding taken
taken_spelled Word text field rest e =
    elim (cases_Bool (position_or_len is_space text == 0)) [
      | inl none ↦ let nothing : Taken = None in let h : nothing ≡ Some (field, rest) = rw none at e in absurd cc
      | inr some ↦
          let n : ℕ = position_or_len is_space text in
          let got : Taken = Some (take n text, drop n text) in
          let h : got ≡ Some (field, rest) = rw some at e in
          sym (take-append-drop n text) ∙ (ap (λ t. t ++ drop n text) (first_is (take n text, drop n text) (field, rest) h) ∙ ap (λ t. field ++ t) (second_is (take n text, drop n text) (field, rest) h))
    ]
taken_spelled Bracketed text field rest e = enclosed_spelled 91 93 text field rest (position (λ b. b == 93)) position_at (behind 91 text) refl e
taken_spelled Quoted text field rest e = enclosed_spelled 34 34 text field rest closing closing_at (behind 34 text) refl e

-- spaces at the front
prefix_spelled : (text : List ℕ) → text ≡ replicate (prefix_len is_space text) 32 ++ drop (prefix_len is_space text) text
prefix_spelled [] = refl
prefix_spelled (b ∷ bs) =
    elim (cases_Bool (is_space b)) [
      | inl space ↦ let is : b ≡ 32 = eqb-true b 32 space in rw (space, one_more) (ap (λ t. b ∷ t) (prefix_spelled bs) ∙ ap (λ c. c ∷ (replicate (prefix_len is_space bs) 32 ++ drop (prefix_len is_space bs) bs)) is)
      | inr other ↦ rw other refl
    ]

spaces_spelled : (text next : List ℕ) → behind_spaces text ≡ Some next → (more : ℕ) × (text ≡ replicate (more + 1) 32 ++ next)
spaces_spelled [] next e = absurd cc
spaces_spelled (b ∷ bs) next e =
    elim (cases_Bool (is_space b)) [
      | inl space ↦
          let is : b ≡ 32 = eqb-true b 32 space in
          let n : ℕ = prefix_len is_space bs in
          let h : Some (drop n bs) ≡ Some next = rw space at e in
          let rest : drop n bs ≡ next = cc in
          let one : n + 1 ≡ suc n = omega arith in
          (n, rw one (ap (λ t. b ∷ t) (prefix_spelled bs) ∙ (ap (λ c. c ∷ (replicate n 32 ++ drop n bs)) is ∙ ap (λ t. 32 ∷ (replicate n 32 ++ t)) rest)))
      | inr other ↦ let h : None ≡ Some next = rw other at e in absurd cc
    ]

-- ---- the law

empty : (text : List ℕ) → length text ≡ 0 → text ≡ []
empty [] e = refl
empty (b ∷ bs) e = absurd (omega arith)

-- the text is the parts of the line, and the line may end behind the last
pub record IsRead (parts : ℕ) (shapes : List Shape) (fields : List (List ℕ)) (text : List ℕ) : Type 0 where
  pub fit : AreFit shapes fields
  pub joined : IsJoined shapes fields text
  pub ends : may_end (parts + length fields) ≡ true

joined_more : (shape : Shape) (shapes : List Shape) (field text rest next : List ℕ) (others : List (List ℕ)) → text ≡ spelled shape field ++ rest → (spaces : (more : ℕ) × (rest ≡ replicate (more + 1) 32 ++ next)) → IsJoined shapes others next
    → IsJoined (shape ∷ shapes) (field ∷ others) text
joined_more shape [] field text rest next others e spaces joined = absurd joined
joined_more shape (s ∷ shapes) field text rest next [] e spaces joined = absurd joined
joined_more shape (s ∷ shapes) field text rest next (o ∷ others) e spaces joined = (spaces.0, (next, (e ∙ ap (λ t. spelled shape field ++ t) spaces.1, joined)))

-- the parts that follow were read
Follows : ℕ → List Shape → Type 0
Follows parts shapes = (next : List ℕ) (others : List (List ℕ)) → fields_behind (parts + 1) shapes next ≡ Some others → IsRead (parts + 1) shapes others next

sums : (parts n : ℕ) → parts + suc n ≡ parts + 1 + n
sums parts n = omega arith

by_rest : (parts : ℕ) (shape : Shape) (shapes : List Shape) (text field rest next : List ℕ) (fields : List (List ℕ)) (others : Option (List (List ℕ))) → taken shape text ≡ Some (field, rest) → behind_spaces rest ≡ Some next
    → fields_behind (parts + 1) shapes next ≡ others → option_map (λ t. field ∷ t) others ≡ Some fields → Follows parts shapes → IsRead parts (shape ∷ shapes) fields text
unfolding Follows
by_rest parts shape shapes text field rest next fields None is there e h follows = absurd cc
by_rest parts shape shapes text field rest next fields (Some others) is there e h follows =
    let same : field ∷ others ≡ fields = cc in
    let more = follows next others e in
    subst (λ (f : List (List ℕ)). IsRead parts (shape ∷ shapes) f text) same (record {
      fit = (taken_fits shape text field rest is, more.fit);
      joined = joined_more shape shapes field text rest next others (taken_spelled shape text field rest is) (spaces_spelled rest next there) more.joined;
      ends = ap may_end (sums parts (length others)) ∙ more.ends;
    })

by_spaces : (parts : ℕ) (shape : Shape) (shapes : List Shape) (text field rest : List ℕ) (fields : List (List ℕ)) (next : Option (List ℕ)) → taken shape text ≡ Some (field, rest) → length rest ≢ 0 → behind_spaces rest ≡ next
    → fields_behind parts (shape ∷ shapes) text ≡ Some fields → Follows parts shapes → IsRead parts (shape ∷ shapes) fields text
by_spaces parts shape shapes text field rest fields None is some there e follows = let none = unparted parts shape shapes text field rest is some there in absurd cc
by_spaces parts shape shapes text field rest fields (Some next) is some there e follows =
    by_rest parts shape shapes text field rest next fields (fields_behind (parts + 1) shapes next) is there refl (sym (goes_on parts shape shapes text field rest next is some there) ∙ e) follows

by_end : (parts : ℕ) (shape : Shape) (shapes : List Shape) (text field rest : List ℕ) (fields : List (List ℕ)) (ends : Bool) → taken shape text ≡ Some (field, rest) → length rest ≡ 0 → may_end (parts + 1) ≡ ends
    → cond ends (Some (field ∷ [])) None ≡ Some fields → IsRead parts (shape ∷ shapes) fields text
by_end parts shape shapes text field rest fields false is none ends e = absurd cc
by_end parts shape shapes text field rest fields true is none ends e =
    let same : field ∷ [] ≡ fields = cc in
    subst (λ (f : List (List ℕ)). IsRead parts (shape ∷ shapes) f text) same (record {
      fit = (taken_fits shape text field rest is, tt);
      joined = taken_spelled shape text field rest is ∙ (ap (λ t. spelled shape field ++ t) (empty rest none) ∙ append-nil (spelled shape field));
      ends = ends;
    })

by_taken : (parts : ℕ) (shape : Shape) (shapes : List Shape) (text : List ℕ) (fields : List (List ℕ)) (part : Taken) → taken shape text ≡ part → fields_behind parts (shape ∷ shapes) text ≡ Some fields → Follows parts shapes
    → IsRead parts (shape ∷ shapes) fields text
by_taken parts shape shapes text fields None is e follows = let none = none_there parts shape shapes text is in absurd cc
by_taken parts shape shapes text fields (Some part) is e follows =
    elim (cases_Bool (length part.1 == 0)) [
      | inl zero' ↦
          let none : length part.1 ≡ 0 = eqb-true (length part.1) 0 zero' in
          by_end parts shape shapes text part.0 part.1 fields (may_end (parts + 1)) is none refl (sym (ends_there parts shape shapes text part.0 part.1 is none) ∙ e)
      | inr other ↦
          let some : length part.1 ≢ 0 = λ z. absurd (nonzero (length part.1) other z) in
          by_spaces parts shape shapes text part.0 part.1 fields (behind_spaces part.1) is some refl e follows
    ]
  where
    nonzero : (n : ℕ) → (n == 0) ≡ false → n ≡ 0 → ⊥
    nonzero n e z = let h = eq-eqb n 0 z in absurd cc

pub fields_behind-spelled : (parts : ℕ) (shapes : List Shape) (text : List ℕ) (fields : List (List ℕ)) → fields_behind parts shapes text ≡ Some fields → IsRead parts shapes fields text
unfolding fields_behind Follows
fields_behind-spelled parts [] text fields e = absurd cc
fields_behind-spelled parts (shape ∷ shapes) text fields e =
    by_taken parts shape shapes text fields (taken shape text) refl e (λ next others h. fields_behind-spelled (parts + 1) shapes next others h)
