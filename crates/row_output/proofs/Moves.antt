-- Items that are taken from a list, one after the other.
use Rattle.std.proofs.Common.{◌≡◌, ◌+◌, ◌-◌, ◌<◌, ◌≤◌, ℕ, List, [], ◌∷◌, ◌++◌, length, take, drop, set, get_or, refl, sym, ◌∙◌, ap, arith, length-drop}
use Rattle.std.proofs.lemmas.List.{take_more, take_all, get_or-drop, drop-set-lt, length-set}
use Rattle.std.proofs.lemmas.Grind.{drop_more_same}

-- two lists that agree from a place on agree there
pub same_at : {X : Type 0} (xs ys : List X) (n : ℕ) (d : X) → drop n xs ≡ drop n ys → get_or xs n d ≡ get_or ys n d
same_at {X} xs ys n d same =
    let here : n ≡ n + 0 = omega arith in
    ap (λ (m : ℕ). get_or xs m d) here ∙ (sym (get_or-drop n xs 0 d) ∙ (ap (λ (t : List X). get_or t 0 d) same ∙ (get_or-drop n ys 0 d ∙ ap (λ (m : ℕ). get_or ys m d) (sym here))))

-- none is taken
pub taken_none : {X : Type 0} (xs : List X) (start : ℕ) → [] ≡ take (start - start) (drop start xs)
taken_none {X} xs start = let none : start - start ≡ 0 = omega arith in ap (λ (n : ℕ). take n (drop start xs)) (sym none)

-- one more is taken
pub taken_more : {X : Type 0} (xs into : List X) (start i : ℕ) (d : X) → start ≤ i → i < length xs → into ≡ take (i - start) (drop start xs) → into ++ get_or xs i d ∷ [] ≡ take ((i + 1) - start) (drop start xs)
taken_more {X} xs into start i d low within so_far =
    let long = length-drop start xs in
    let less : i - start < length (drop start xs) = omega (arith, long, low, within) in
    let there : start + (i - start) ≡ i = omega (arith, low) in
    let next : (i + 1) - start ≡ (i - start) + 1 = omega (arith, low) in
    let item : get_or xs i d ≡ get_or (drop start xs) (i - start) d = ap (λ (n : ℕ). get_or xs n d) (sym there) ∙ sym (get_or-drop start xs (i - start) d) in
    ap (λ (l : List X). l ++ get_or xs i d ∷ []) so_far ∙ (ap (λ (v : X). take (i - start) (drop start xs) ++ v ∷ []) item ∙ (sym (take_more (drop start xs) (i - start) d less) ∙ ap (λ (n : ℕ). take n (drop start xs)) (sym next)))

-- all are taken
pub taken_all : {X : Type 0} (xs into : List X) (start i : ℕ) → length xs ≤ i → into ≡ take (i - start) (drop start xs) → into ≡ drop start xs
taken_all xs into start i all so_far = let long = length-drop start xs in so_far ∙ take_all (i - start) (drop start xs) (omega (arith, long, all))

-- what stands behind an item stays where that is changed
pub behind_set : {X : Type 0} (xs ys : List X) (n : ℕ) (v : X) → drop n xs ≡ drop n ys → drop (n + 1) (set xs n v) ≡ drop (n + 1) ys
behind_set xs ys n v same = drop-set-lt (n + 1) xs n v (omega arith) ∙ drop_more_same xs ys n same

-- an item that is taken out of a list, of which all from there on stands
pub taken_at : {X : Type 0} (now all : List X) (i : ℕ) (item d : X) → item ≡ get_or now i d → drop i now ≡ drop i all → item ≡ get_or all i d
taken_at now all i item d is same = is ∙ same_at now all i d same

pub left_behind : {X : Type 0} (now all next : List X) (i : ℕ) (v : X) → next ≡ set now i v → drop i now ≡ drop i all → drop (i + 1) next ≡ drop (i + 1) all
left_behind now all next i v is same = ap (drop (i + 1)) is ∙ behind_set now all i v same

pub left_size : {X : Type 0} (now all next : List X) (i : ℕ) (v : X) → next ≡ set now i v → length now ≡ length all → length next ≡ length all
left_size now all next i v is same = ap length is ∙ (length-set now i v ∙ same)
