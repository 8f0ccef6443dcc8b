-- The complete lines of a log: those that an LF ends.
use Rattle.std.specs.Prelude.{◌≡◌, ◌⊎◌, ℕ, true, List, [], ◌∷◌}
use Rattle.lp_model.specs.Lines.{Line, lines_of}

-- something is among others
abbrev pub IsAmong : {X : Type 0} → X → List X → Type 0
IsAmong x [] = ⊥
IsAmong x (other ∷ others) = (x ≡ other) ⊎ IsAmong x others

-- a complete line of these bytes
abbrev pub IsLine : List ℕ → Line → Type 0
IsLine bytes line = IsAmong line (lines_of bytes true)
