-- A text from one place to the next.
use Rattle.std.proofs.Common.{◌≡◌, ℕ, ◌+◌, ◌<◌, ◌≤◌, true, false, List, [], ◌∷◌, ◌++◌, length, take, drop, get_or, ◌-◌, if◌then◌else◌, Option, Some, None, ap, sym, ◌∙◌, refl, append_assoc, arith}
use Rattle.std.proofs.lemmas.List.{drop_more, drop_all, take_all}
use Rattle.tpl_output.specs.declared.placed.Placed.{Placed}
use Rattle.std.specs.Option.{option_or}
use Rattle.tpl_output.specs.declared.placed.Found.{Found}
use Rattle.tpl_output.specs.declared.placed.Kind.TheVariants as K
use Rattle.tpl_output.specs.Sections.{placed_at, tags_from, is_blank, outside_from, outside_fault, opening_fault, fault_from, closes, order_of}

pub nothing_more : {X : Type 0} (xs : List X) → xs ≡ xs ++ []
nothing_more [] = refl
nothing_more (x ∷ xs) = ap (λ t. x ∷ t) (nothing_more xs)

tags_here : (text : List ℕ) (at : ℕ) → at < length text → tags_from at (drop at text) ≡ placed_at at (drop at text) ++ tags_from (at + 1) (drop (at + 1) text)
unfolding tags_from
tags_here text at lt =
    let e = drop_more text at 0 lt in
    ap (tags_from at) e ∙ ap (λ t. placed_at at t ++ tags_from (at + 1) (drop (at + 1) text)) (sym e)

-- the mark at a place, and those behind it
pub tags_next : (text : List ℕ) (at : ℕ) (before after : List Placed) (here : List ℕ) → at < length text → tags_from 0 text ≡ before ++ tags_from at (drop at text) → here ≡ drop at text → after ≡ before ++ placed_at at here
    → tags_from 0 text ≡ after ++ tags_from (at + 1) (drop (at + 1) text)
tags_next text at before after here lt so_far is new =
    let behind = tags_from (at + 1) (drop (at + 1) text) in
    so_far
    ∙ (ap (λ t. before ++ t) (tags_here text at lt) ∙ (sym (append_assoc before (placed_at at (drop at text)) behind) ∙ ap (λ t. t ++ behind) (ap (λ t. before ++ placed_at at t) (sym is) ∙ sym new)))

pub tags_all : (text : List ℕ) (at : ℕ) (tags : List Placed) → length text ≤ at → tags_from 0 text ≡ tags ++ tags_from at (drop at text) → tags ≡ tags_from 0 text
unfolding tags_from
tags_all text at tags past so_far = sym (so_far ∙ (ap (λ t. tags ++ tags_from at t) (drop_all at text past) ∙ sym (nothing_more tags)))

-- past a blank
pub outside_next : (part : List ℕ) (from i : ℕ) → i < length part → is_blank (get_or part i 0) ≡ true → outside_from (from + i) (drop i part) ≡ outside_from (from + (i + 1)) (drop (i + 1) part)
unfolding outside_from
outside_next part from i lt blank =
    let e = drop_more part i 0 lt in
    let place : (from + i) + 1 ≡ from + (i + 1) = omega arith in
    let step : outside_from (from + i) (get_or part i 0 ∷ drop (i + 1) part) ≡ outside_from ((from + i) + 1) (drop (i + 1) part) = rw blank refl in
    ap (outside_from (from + i)) e ∙ (step ∙ ap (λ n. outside_from n (drop (i + 1) part)) place)

pub outside_found : (part : List ℕ) (from i : ℕ) → i < length part → is_blank (get_or part i 0) ≡ false → outside_from (from + i) (drop i part) ≡ Some (from + i)
unfolding outside_from
outside_found part from i lt text =
    let e = drop_more part i 0 lt in
    let step : outside_from (from + i) (get_or part i 0 ∷ drop (i + 1) part) ≡ Some (from + i) = rw text refl in
    ap (outside_from (from + i)) e ∙ step

pub outside_none : (part : List ℕ) (from i : ℕ) → length part ≤ i → outside_from (from + i) (drop i part) ≡ None
unfolding outside_from
outside_none part from i past = ap (outside_from (from + i)) (drop_all i part past)

or_none : {X : Type 0} (a b c : Option X) → option_or a b ≡ None → option_or a (option_or b c) ≡ c
or_none None None c none = refl
or_none None (Some x) c none = absurd (cc)
or_none (Some x) b c none = absurd (cc)

-- a section that is in order and ends has no fault of its own
pub fault_behind : (text : List ℕ) (from least : ℕ) (opening end : Placed) (tags : List Placed) → option_or (outside_fault text from opening.at) (opening_fault least opening (end ∷ tags)) ≡ None → closes opening.tag.section end ≡ true
    → fault_from text end.behind (order_of opening.tag.section + 1) tags ≡ fault_from text from least (opening ∷ (end ∷ tags))
unfolding fault_from
fault_behind text from least opening end tags none closed =
    let last = fault_from text end.behind (order_of opening.tag.section + 1) tags in
    sym (or_none (outside_fault text from opening.at) (opening_fault least opening (end ∷ tags)) (if closes opening.tag.section end then last else Some (record { kind = K.Misplaced; at = end.at })) none ∙ rw closed refl)

pub head_rest : {X : Type 0} (xs : List X) (d : X) → 1 ≤ length xs → xs ≡ get_or xs 0 d ∷ take (length xs - 1) (drop 1 xs)
head_rest [] d some = absurd (omega arith)
head_rest (x ∷ xs) d some =
    let all : length xs ≤ length (x ∷ xs) - 1 = omega arith in
    ap (λ t. x ∷ t) (sym (take_all (length (x ∷ xs) - 1) xs all))

pub fault_closed : (text : List ℕ) (from least order : ℕ) (tags rest others : List Placed) (opening end : Placed) (before result : Option Found) → tags ≡ opening ∷ rest → rest ≡ end ∷ others
    → before ≡ option_or (outside_fault text from opening.at) (opening_fault least opening rest) → before ≡ None → closes opening.tag.section end ≡ true → order ≡ order_of opening.tag.section
    → result ≡ fault_from text end.behind (order + 1) others → result ≡ fault_from text from least tags
fault_closed text from least order tags rest others opening end before result first second is none closed ordered last =
    let nothing : option_or (outside_fault text from opening.at) (opening_fault least opening (end ∷ others)) ≡ None =
    ap (λ r. option_or (outside_fault text from opening.at) (opening_fault least opening r)) (sym second) ∙ (sym is ∙ none) in
    last
    ∙ (ap (λ n. fault_from text end.behind (n + 1) others) ordered
    ∙ (fault_behind text from least opening end others nothing closed ∙ ap (fault_from text from least) (ap (λ r. opening ∷ r) (sym second) ∙ sym first)))
