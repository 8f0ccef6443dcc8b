-- Rotated files one after another.
use Rattle.std.proofs.Common.{◌≡◌, ℕ, zero, suc, ◌+◌, List, [], ◌∷◌, ◌++◌, ◌∙◌, ap, arith}
use Rattle.run_model.specs.Logs.{generation_name}
use Rattle.run_model.specs.Listed.{Listed, rotated_files}

abbrev pub file_of : List ℕ → ℕ → Listed
file_of stem number = record { name = generation_name stem number; identity = generation_name stem number }

pub rotated_more : (stem : List ℕ) (first count : ℕ) → rotated_files stem first (suc count) ≡ rotated_files stem first count ++ file_of stem (first + count) ∷ []
rotated_more stem first zero = let e : first ≡ first + 0 = omega arith in λ i. file_of stem (e i) ∷ []
rotated_more stem first (suc count) =
    let e : first + 1 + count ≡ first + suc count = omega arith in
    ap (λ t. file_of stem first ∷ t) (rotated_more stem (first + 1) count ∙ ap (λ n. rotated_files stem (first + 1) count ++ file_of stem n ∷ []) e)
