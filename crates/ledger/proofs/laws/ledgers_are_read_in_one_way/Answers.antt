use Rattle.std.proofs.Common.{◌≡◌, ◌⊎◌, inl, inr, ⊎_elim, ℕ, ◌<◌, ◌≤◌, List, [], ◌∷◌, ◌++◌, length, flat_map, refl, arith}
use Rattle.std.proofs.lemmas.List.{length-append}
use Rattle.ledger_model.specs.Ledgers.{Pair, mark, spelled_pair, front_of}
use Rattle.ledger_model.proofs.Reading.{one_ledger, ledger_apart, ledger_place}
use Rattle.ledger.proofs.Pairs.{pair_length}
use Rattle.ledger.proofs.laws.ledgers_are_read_in_one_way.Goals as goal

short_pairs : (pairs : List Pair) (rest : List ℕ) → length (front_of pairs ++ rest) ≤ 18 → pairs ≡ []
short_pairs [] rest short = refl
short_pairs (p ∷ ps) rest short = absurd (omega (arith, short, length-append (front_of (p ∷ ps)) rest, length-append mark (flat_map spelled_pair (p ∷ ps)), length-append (spelled_pair p) (flat_map spelled_pair ps), pair_length p))

short_or_long : (n : ℕ) → (n ≤ 18) ⊎ (18 < n)
short_or_long n = grind arith

pub returns-clause-one : goal.returns-clause-one
returns-clause-one c = λ ledger ps qs f g. one_ledger ledger ps qs f g

pub returns-clause-apart : goal.returns-clause-apart
returns-clause-apart c = λ ledger pairs place is breaks. ledger_apart ledger pairs place is breaks

pub returns-clause-place : goal.returns-clause-place
returns-clause-place c = λ ledger p q one two. ledger_place ledger p q one two

pub returns-clause-behind : goal.returns-clause-behind
returns-clause-behind c = λ pairs gate done rest fit shut.
    let all : List ℕ = front_of pairs ++ (gate ∷ (done ∷ rest)) in
    ⊎_elim (λ short. inl (short, short_pairs pairs (gate ∷ (done ∷ rest)) short))
    (λ long. inr (record { long = long; fit = fit; rest = gate ∷ (done ∷ rest); split = refl; closed = (shut, omega arith) }))
    (short_or_long (length all))
