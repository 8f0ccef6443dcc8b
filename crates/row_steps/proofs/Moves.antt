-- Items that are moved out of a list, one after the other.
use Rattle.std.proofs.Common.{◌≡◌, ◌+◌, ◌-◌, ◌<◌, ◌≤◌, ℕ, List, [], ◌∷◌, ◌++◌, length, take, drop, set, get_or, sym, ◌∙◌, ap, arith, append_assoc, length-drop}
use Rattle.std.proofs.lemmas.List.{take_more, take_all, get_or-drop, drop-set-lt, length-set}
use Rattle.std.proofs.lemmas.Grind.{drop_more_same}

-- two lists that agree from a place on agree there
pub same_at : {X : Type 0} (xs ys : List X) (n : ℕ) (d : X) → drop n xs ≡ drop n ys → get_or xs n d ≡ get_or ys n d
same_at {X} xs ys n d same =
    let here : n ≡ n + 0 = omega arith in
    ap (λ (m : ℕ). get_or xs m d) here ∙ (sym (get_or-drop n xs 0 d) ∙ (ap (λ (t : List X). get_or t 0 d) same ∙ (get_or-drop n ys 0 d ∙ ap (λ (m : ℕ). get_or ys m d) (sym here))))

-- what stands behind an item stays where that is changed
pub behind_set : {X : Type 0} (xs ys : List X) (n : ℕ) (v : X) → drop n xs ≡ drop n ys → drop (n + 1) (set xs n v) ≡ drop (n + 1) ys
behind_set xs ys n v same = drop-set-lt (n + 1) xs n v (omega arith) ∙ drop_more_same xs ys n same

-- an item that is taken out of a list, of which all from there on stands
pub taken_at : {X : Type 0} (now all : List X) (i : ℕ) (item d : X) → item ≡ get_or now i d → drop i now ≡ drop i all → item ≡ get_or all i d
taken_at now all i item d is same = is ∙ same_at now all i d same

pub left_behind : {X : Type 0} (now all next : List X) (i : ℕ) (v : X) → next ≡ set now i v → drop i now ≡ drop i all → drop (i + 1) next ≡ drop (i + 1) all
left_behind now all next i v is same = ap (drop (i + 1)) is ∙ behind_set now all i v same

pub left_size : {X : Type 0} (now all next : List X) (i : ℕ) (v : X) → next ≡ set now i v → length now ≡ length all → length next ≡ length all
left_size now all next i v is same = ap length is ∙ (length-set now i v ∙ same)

-- one more item was moved
pub moved_more : {X : Type 0} (xs ys into all : List X) (start i : ℕ) (d : X) → start + i < length ys → drop (start + i) xs ≡ drop (start + i) ys → into ≡ all ++ take i (drop start ys)
    → into ++ get_or xs (start + i) d ∷ [] ≡ all ++ take (i + 1) (drop start ys)
moved_more {X} xs ys into all start i d within same so_far =
    let low : i < length (drop start ys) = omega (arith, length-drop start ys) in
    let here : get_or xs (start + i) d ≡ get_or (drop start ys) i d = same_at xs ys (start + i) d same ∙ sym (get_or-drop start ys i d) in
    ap (λ (t : List X). t ++ get_or xs (start + i) d ∷ []) so_far
    ∙ (append_assoc all (take i (drop start ys)) (get_or xs (start + i) d ∷ [])
    ∙ ap (λ (t : List X). all ++ t) (ap (λ (v : X). take i (drop start ys) ++ v ∷ []) here ∙ sym (take_more (drop start ys) i d low)))

-- what stands behind it stays
pub behind_more : {X : Type 0} (xs ys : List X) (start i : ℕ) (v : X) → drop (start + i) xs ≡ drop (start + i) ys → drop (start + (i + 1)) (set xs (start + i) v) ≡ drop (start + (i + 1)) ys
behind_more {X} xs ys start i v same =
    let on : start + (i + 1) ≡ (start + i) + 1 = omega arith in
    ap (λ (m : ℕ). drop m (set xs (start + i) v)) on ∙ (behind_set xs ys (start + i) v same ∙ ap (λ (m : ℕ). drop m ys) (sym on))

-- all from a place on
pub rest_all : {X : Type 0} (xs ys : List X) (n count : ℕ) → n ≤ length ys → count ≡ length ys - n → drop n xs ≡ drop n ys → take count (drop n xs) ≡ drop n ys
rest_all xs ys n count within size same = ap (take count) same ∙ take_all count (drop n ys) (omega (arith, length-drop n ys))
