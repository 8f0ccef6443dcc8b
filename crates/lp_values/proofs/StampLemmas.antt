-- A stamp is its seconds and its part.
use Rattle.std.proofs.Common.{◌≡◌, ℤ, ap, subst}
use Rattle.std.proofs.Props.{props}
use Rattle.lp_values.specs.declared.part.Part.{Part}
use Rattle.lp_values.specs.declared.stamp.Stamp.{Stamp}
use Rattle.lp_values.specs.Stamps.{IsStamp}

of_parts : (seconds : ℤ) (part : Part) → IsStamp seconds part → Stamp
of_parts seconds part exists = record { seconds = seconds; part = part; exists = exists }

one_way : (seconds : ℤ) (part : Part) (a b : IsStamp seconds part) → a ≡ b
one_way seconds part = hlevel props

alike : (seconds seconds' : ℤ) (part part' : Part) → seconds ≡ seconds' → part ≡ part' → (a : IsStamp seconds part) (b : IsStamp seconds' part') → of_parts seconds part a ≡ of_parts seconds' part' b
alike seconds seconds' part part' e f a b =
    subst (λ (z : ℤ). (b : IsStamp z part') → of_parts seconds part a ≡ of_parts z part' b) e
    (subst (λ (p : Part). (b : IsStamp seconds p) → of_parts seconds part a ≡ of_parts seconds p b) f
    (λ b. ap (of_parts seconds part) (one_way seconds part a b))) b

pub stamps_same : (s t : Stamp) → s.seconds ≡ t.seconds → s.part ≡ t.part → s ≡ t
unfolding of_parts
stamps_same s t e f = alike s.seconds t.seconds s.part t.part e f s.exists t.exists
