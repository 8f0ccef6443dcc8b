-- A standing is told by its bytes.
use Rattle.std.proofs.Common.{◌≡◌, ℕ, List, [], ◌++◌, ap}
use Rattle.ledger_model.specs.Standings.{standing_layout}
use Rattle.ledger_model.proofs.Fields.{standing_law}
use Rattle.lp_model.specs.Reading.{Standing}

-- two standings with the same bytes, which both fit, are one
pub one_standing : (most : ℕ) (a b : Standing) → (standing_layout most).Fits a → (standing_layout most).Fits b → (standing_layout most).spell a ≡ (standing_layout most).spell b → a ≡ b
one_standing most a b f g same = ((standing_law most).one a b [] [] f g (ap (λ (bytes : List ℕ). bytes ++ []) same)).0
