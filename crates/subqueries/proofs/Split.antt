-- The first of a list, and what is behind it.
use Rattle.std.proofs.Common.{◌≡◌, ◌≤◌, ◌-◌, List, [], ◌∷◌, length, get_or, take, drop, sym, ap, arith}
use Rattle.std.proofs.lemmas.List.{take_all}

pub parted : {X : Type 0} (xs : List X) (x : X) → 1 ≤ length xs → x ≡ get_or xs 0 x → xs ≡ x ∷ take (length xs - 1) (drop 1 xs)
parted [] x some is = absurd (omega (arith, some))
parted (y ∷ xs) x some is = λ i. sym is i ∷ sym (take_all (length (y ∷ xs) - 1) xs (omega arith)) i

pub head_rest : {X : Type 0} (xs : List X) (d : X) → 1 ≤ length xs → xs ≡ get_or xs 0 d ∷ take (length xs - 1) (drop 1 xs)
head_rest [] d some = absurd (omega arith)
head_rest (x ∷ xs) d some =
    let all : length xs ≤ length (x ∷ xs) - 1 = omega arith in
    ap (λ t. x ∷ t) (sym (take_all (length (x ∷ xs) - 1) xs all))
