-- One part after another: the levels of both from those of each.
use Rattle.std.proofs.Common.{◌≡◌, ℕ, ◌+◌, ◌-◌, ◌≤◌, max, true, List, ◌∷◌, ◌++◌, length, refl, sym, ◌∙◌, ap, ap₂, subst, arith, length-append}
use Rattle.std.proofs.lemmas.List.{append_cancel_left}
use Rattle.grammar.specs.Trees.{Token}
use Rattle.grammar.specs.Forms.{Kind, Form}
use Rattle.grammar.specs.Derivations.{Derivation, tokens, depth, depth_to}
use Rattle.grammar.specs.Reading.{Apart}
use Rattle.grammar.proofs.Heads.{depth_none}
use Rattle.grammar.proofs.Checking.{is_told_apart}
use Rattle.query_parser.proofs.Unique.{reads_of}
use Rattle.query_laws.proofs.Meeting.{Opens, Reach, ends, passes, reach, goes_further, opens_rest}

-- whatever derives from the form and begins with a front of these tokens has as many levels open in it
abbrev pub Same : {a : Kind} {f : Form a} → Derivation a f → Type 0
Same {a = a} {f = f} d = (e : Derivation a f) (front y z : List Token) → is_told_apart f ≡ true → Apart f y → Apart f z → Opens front (tokens d ++ y) → Opens front (tokens e ++ z)
    → depth_to (length front) d ≡ depth_to (length front) e

-- where a front goes on behind the part, the part has the same tokens in each
same_part : {a : Kind} {f : Form a} (d e : Derivation a f) (z : List Token) (t : Token) (r s : List Token) → is_told_apart f ≡ true → Apart f (t ∷ r) → Apart f z → tokens e ++ z ≡ tokens d ++ t ∷ s → tokens e ≡ tokens d
same_part d e z t r s told one two is =
    let read = reads_of d (depth d) (t ∷ r) told (omega arith) one in
    let own = read.only d (t ∷ r) one (r, read.split) in
    let other = read.only e z two (s, is ∙ ap (λ (x : List Token). x ++ t ∷ s) own.0) in
    other.0 ∙ sym own.0

part_by : {a : Kind} {f : Form a} (d e : Derivation a f) (front y z others : List Token) (t : Token) (k : List Token) → is_told_apart f ≡ true → Apart f y → Apart f z → front ≡ tokens d ++ t ∷ k → y ≡ t ∷ (k ++ others)
    → Opens front (tokens e ++ z) → tokens e ≡ tokens d
part_by {f = f} d e front y z others t k told one two is so there =
    same_part d e z t (k ++ others) (k ++ there.0) told (subst (λ (l : List Token). Apart f l) so one) two (opens_rest front (tokens d) (tokens e ++ z) t k is there)

-- neither second part is reached
both_ended : {b : Kind} {g : Form b} (x w : Derivation b g) (n i j : ℕ) → n ≤ i → n ≤ j → depth_to (n - i) x ≡ depth_to (n - j) w
both_ended x w n i j one two =
    let first : n - i ≡ 0 = omega arith in
    let second : n - j ≡ 0 = omega arith in
    ap (λ (m : ℕ). depth_to m x) first ∙ depth_none x ∙ sym (depth_none w) ∙ sym (ap (λ (m : ℕ). depth_to m w) second)

left_over : (front part other : List Token) (t : Token) (k : List Token) → front ≡ part ++ t ∷ k → other ≡ part → length front - length other ≡ length (t ∷ k)
left_over front part other t k is same =
    let size : length front ≡ length part + length (t ∷ k) = ap (λ (l : List Token). length l) is ∙ length-append part (t ∷ k) in
    let two = ap (λ (l : List Token). length l) same in
    omega arith

-- both are, behind the same tokens
both_passed : {a b : Kind} {f : Form a} {g : Form b} (d e : Derivation a f) (x w : Derivation b g) (front y z others : List Token) (t : Token) (k : List Token) → is_told_apart g ≡ true → Same x → Apart g y → Apart g z
    → tokens e ≡ tokens d → front ≡ tokens d ++ t ∷ k → tokens x ++ y ≡ t ∷ (k ++ others) → Opens front (tokens e ++ (tokens w ++ z))
    → depth_to (length front - length (tokens d)) x ≡ depth_to (length front - length (tokens e)) w
both_passed d e x w front y z others t k told two apart_y apart_z same is so there =
    let behind : tokens w ++ z ≡ t ∷ (k ++ there.0) =
    append_cancel_left (tokens d) (tokens w ++ z) (t ∷ (k ++ there.0)) (ap (λ (l : List Token). l ++ (tokens w ++ z)) (sym same) ∙ opens_rest front (tokens d) (tokens e ++ (tokens w ++ z)) t k is there) in
    ap (λ (m : ℕ). depth_to m x) (left_over front (tokens d) (tokens d) t k is refl)
    ∙ two w (t ∷ k) y z told apart_y apart_z (others, so) (there.0, behind)
    ∙ sym (ap (λ (m : ℕ). depth_to m w) (left_over front (tokens d) (tokens e) t k is same))

second_same : {a b : Kind} {f : Form a} {g : Form b} (d e : Derivation a f) (x w : Derivation b g) (front y z : List Token) → is_told_apart f ≡ true → is_told_apart g ≡ true → Same x
    → Apart f (tokens x ++ y) → Apart f (tokens w ++ z) → Apart g y → Apart g z → (here : Opens front (tokens d ++ (tokens x ++ y))) (there : Opens front (tokens e ++ (tokens w ++ z)))
    → Reach (tokens d) (tokens x ++ y) front here.0 → Reach (tokens e) (tokens w ++ z) front there.0
    → depth_to (length front - length (tokens d)) x ≡ depth_to (length front - length (tokens e)) w
second_same d e x w front y z told also two apart_d apart_e apart_y apart_z here there (passes t k is so) other =
    both_passed d e x w front y z here.0 t k also two apart_y apart_z (part_by d e front (tokens x ++ y) (tokens w ++ z) here.0 t k told apart_d apart_e is so there) is so there
second_same d e x w front y z told also two apart_d apart_e apart_y apart_z here there (ends i) (ends j) = both_ended x w (length front) (length (tokens d)) (length (tokens e)) i j
second_same d e x w front y z told also two apart_d apart_e apart_y apart_z here there (ends i) (passes t k is so) =
    absurd (goes_further front (tokens e) (tokens d) t k is (part_by e d front (tokens w ++ z) (tokens x ++ y) there.0 t k told apart_e apart_d is so here) i)

-- the levels of two parts, one after another
pub both_same : {a b : Kind} {f : Form a} {g : Form b} (d e : Derivation a f) (x w : Derivation b g) (front y z : List Token) → is_told_apart f ≡ true → is_told_apart g ≡ true → Same d → Same x
    → Apart f (tokens x ++ y) → Apart f (tokens w ++ z) → Apart g y → Apart g z → Opens front (tokens d ++ (tokens x ++ y)) → Opens front (tokens e ++ (tokens w ++ z))
    → max (depth_to (length front) d) (depth_to (length front - length (tokens d)) x) ≡ max (depth_to (length front) e) (depth_to (length front - length (tokens e)) w)
both_same d e x w front y z told also one two apart_d apart_e apart_y apart_z here there =
    ap₂ (λ (m n : ℕ). max m n) (one e front (tokens x ++ y) (tokens w ++ z) told apart_d apart_e here there)
    (second_same d e x w front y z told also two apart_d apart_e apart_y apart_z here there (reach (tokens d) (tokens x ++ y) front here) (reach (tokens e) (tokens w ++ z) front there))
