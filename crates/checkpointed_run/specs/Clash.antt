-- A log that is one of the two files that a run keeps for itself.
use Rattle.std.specs.Prelude.{ℕ, Bool, ◌||◌, List, find, bytes_eq, Option, option_map}
use Rattle.log_reading.specs.declared.span.Span.{Span}

-- a name is the ledger's or the stage's
abbrev pub is_own : List ℕ → List ℕ → List ℕ → Bool
is_own ledger stage name = bytes_eq name ledger || bytes_eq name stage

-- the name of the first span whose file is the ledger or the stage
abbrev pub first_clash : List ℕ → List ℕ → List Span → Option (List ℕ)
first_clash ledger stage spans = option_map (λ (span : Span). span.name) (find (λ (span : Span). is_own ledger stage span.name) spans)
