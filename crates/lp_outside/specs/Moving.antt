-- Bytes on their way to an output.
use Rattle.std.specs.Prelude.{◌≡◌, ℕ, List, ◌++◌, Option}
use Rattle.lp_model.specs.Outside.{Gains}

-- bytes went from the front of a buffer to the output
abbrev pub Moves : Option (List ℕ) → Option (List ℕ) → List ℕ → List ℕ → Type 0
Moves before now old new = (moved : List ℕ) × Gains before now moved × (old ≡ moved ++ new)
