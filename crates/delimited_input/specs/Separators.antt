-- Separators.
use Rattle.std.specs.Prelude.{◌≡◌, ◌<◌, ◌⊎◌, ℕ}

-- CR, LF, a quote, or over 0x7E
abbrev pub IsNoSeparator : ℕ → Type 0
IsNoSeparator separator = (separator ≡ 13) ⊎ (separator ≡ 10) ⊎ (separator ≡ 34) ⊎ (0x7E < separator)
