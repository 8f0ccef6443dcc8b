-- Two fronts of one list of tokens.
use Rattle.std.proofs.Common.{◌≡◌, ◌+◌, ◌≤◌, List, [], ◌∷◌, ◌++◌, length, refl, sym, ◌∙◌, ap, ap₂, arith, length-append, append_assoc}
use Rattle.grammar.specs.Trees.{Token}
use Rattle.grammar.proofs.Agreeing.{same_first}

-- a text begins with these tokens
abbrev pub Opens : List Token → List Token → Type 0
Opens front text = (more : List Token) × (text ≡ front ++ more)

-- the fronts are one, or one of them goes on where the other ends
pub data Meeting (first rest second others : List Token) : Type 0 where
  alike : first ≡ second → rest ≡ others → Meeting first rest second others
  longer : (t : Token) → (k : List Token) → first ≡ second ++ t ∷ k → others ≡ t ∷ (k ++ rest) → Meeting first rest second others
  shorter : (t : Token) → (k : List Token) → second ≡ first ++ t ∷ k → rest ≡ t ∷ (k ++ others) → Meeting first rest second others

pub same_tail : (x y : Token) (xs ys : List Token) → x ∷ xs ≡ y ∷ ys → xs ≡ ys
same_tail x y xs ys is = cc

grown : (x y : Token) (xs rest ys others : List Token) → x ≡ y → Meeting xs rest ys others → Meeting (x ∷ xs) rest (y ∷ ys) others
grown x y xs rest ys others one (alike fronts rests) = alike (ap₂ (λ (t : Token) (l : List Token). t ∷ l) one fronts) rests
grown x y xs rest ys others one (longer t k is so) = longer t k (ap₂ (λ (t : Token) (l : List Token). t ∷ l) one is) so
grown x y xs rest ys others one (shorter t k is so) = shorter t k (ap₂ (λ (t : Token) (l : List Token). t ∷ l) (sym one) is) so

pub meet : (first rest second others : List Token) → first ++ rest ≡ second ++ others → Meeting first rest second others
meet [] rest [] others is = alike refl is
meet [] rest (y ∷ ys) others is = shorter y ys refl is
meet (x ∷ xs) rest [] others is = longer x xs refl (sym is)
meet (x ∷ xs) rest (y ∷ ys) others is =
    grown x y xs rest ys others (same_first x y (xs ++ rest) (ys ++ others) is) (meet xs rest ys others (same_tail x y (xs ++ rest) (ys ++ others) is))

-- the front ends within the first part, or goes on behind it
pub data Reach (part rest front others : List Token) : Type 0 where
  ends : length front ≤ length part → Reach part rest front others
  passes : (t : Token) → (k : List Token) → front ≡ part ++ t ∷ k → rest ≡ t ∷ (k ++ others) → Reach part rest front others

size_of : (whole part more : List Token) → whole ≡ part ++ more → length whole ≡ length part + length more
size_of whole part more is = ap (λ (l : List Token). length l) is ∙ length-append part more

reach_by : (part rest front others : List Token) → Meeting part rest front others → Reach part rest front others
reach_by part rest front others (alike fronts rests) = ends (let same = ap (λ (l : List Token). length l) fronts in omega arith)
reach_by part rest front others (longer t k is so) = ends (let size = size_of part front (t ∷ k) is in omega arith)
reach_by part rest front others (shorter t k is so) = passes t k is so

pub reach : (part rest front : List Token) (here : Opens front (part ++ rest)) → Reach part rest front here.0
reach part rest front here = reach_by part rest front here.0 (meet part rest front here.0 here.1)

-- what goes on behind a part is longer than it
pub goes_further : (front part other : List Token) (t : Token) (k : List Token) → front ≡ part ++ t ∷ k → other ≡ part → length front ≤ length other → ⊥
goes_further front part other t k is same within =
    let size = size_of front part (t ∷ k) is in
    let one : length (t ∷ k) ≡ length k + 1 = omega arith in
    let two = ap (λ (l : List Token). length l) same in
    omega arith

pub opens_parts : (front a b c : List Token) → Opens front ((a ++ b) ++ c) → Opens front (a ++ (b ++ c))
opens_parts front a b c is = (is.0, sym (append_assoc a b c) ∙ is.1)

-- behind a part of the front its rest stands
pub opens_rest : (front part text : List Token) (t : Token) (k : List Token) → front ≡ part ++ t ∷ k → (here : Opens front text) → text ≡ part ++ t ∷ (k ++ here.0)
opens_rest front part text t k is here = here.1 ∙ ap (λ (l : List Token). l ++ here.0) is ∙ append_assoc part (t ∷ k) here.0
