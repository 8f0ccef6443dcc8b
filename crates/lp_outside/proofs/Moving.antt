-- Bytes on their way to an output.
use Rattle.std.proofs.Common.{◌≡◌, ℕ, List, [], ◌++◌, take, drop, Option, refl, sym, ◌∙◌, ap, append_assoc, take-append-drop}
use Rattle.lp_model.specs.Outside.{Gains, GainsSome}
use Rattle.lp_model.proofs.Gaining.{Gains_nothing, Gains_trans, GainsSome_all}
use Rattle.lp_model.proofs.Growing.{append-nil}
use Rattle.lp_outside.specs.Moving.{Moves}

pub Moves_nothing : (a : Option (List ℕ)) (bytes : List ℕ) → Moves a a bytes bytes
Moves_nothing a bytes = ([], Gains_nothing a, refl)

-- a write took the first bytes of what was left
pub Moves_step : (a b c : Option (List ℕ)) (old left : List ℕ) (count : ℕ) → Moves a b old left → Gains b c (take count left) → Moves a c old (drop count left)
Moves_step a b c old left count (moved, gains, parts) more = (
  moved ++ take count left,
  Gains_trans a b c moved (take count left) gains more,
  parts ∙ (ap (λ t. moved ++ t) (sym (take-append-drop count left)) ∙ sym (append_assoc moved (take count left) (drop count left))),
)

pub Moves_all : (a b : Option (List ℕ)) (old left : List ℕ) → Moves a b old left → left ≡ [] → Gains a b old
Moves_all a b old left (moved, gains, parts) empty =
    let whole : old ≡ moved = parts ∙ (ap (λ t. moved ++ t) empty ∙ sym (append-nil moved)) in
    rw whole gains

pub Moves_some : (a b : Option (List ℕ)) (old left : List ℕ) → Moves a b old left → GainsSome a b old
Moves_some a b old left (moved, gains, parts) = rw parts (GainsSome_all a b moved left gains)
