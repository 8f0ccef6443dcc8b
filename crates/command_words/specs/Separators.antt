-- Which bytes part fields.
use Rattle.std.specs.Prelude.{ℕ, ◌≡◌, ◌≤◌, ◌≢◌, ◌⊎◌}

-- a tab, a space, or a visible ASCII character but `"`
abbrev pub IsSeparator : ℕ → Type 0
IsSeparator byte = (byte ≡ 9) ⊎ ((32 ≤ byte) × (byte ≤ 126) × (byte ≢ 34))
