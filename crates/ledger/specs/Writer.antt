-- What a writer of a body has written.
use Rattle.std.specs.Prelude.{◌≡◌, ℕ, ◌+◌, List, ◌∷◌, ◌++◌, length, take, drop}
use Rattle.ledger_model.specs.Numbers.{u64_bytes}

-- where the body begins, and how many bytes of its payload are written
pub record Written : Type 0 where
  pub at : ℕ
  pub count : ℕ

-- The payload was put whole: then the body stands behind what was there before it, and a closed pair behind the body.
abbrev pub WritesBody : Written → List ℕ → List ℕ → Type 0
WritesBody writer old new = (payload rest front : List ℕ) → old ≡ front ++ payload ++ rest → length front ≡ writer.at + 8 → length payload ≡ writer.count
    → new ≡ take writer.at front ++ (u64_bytes (length payload) ++ payload) ++ (0 ∷ (0 ∷ drop 2 rest))
