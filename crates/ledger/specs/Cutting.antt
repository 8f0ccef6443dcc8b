-- Words in front of a text.
use Rattle.std.specs.Prelude.{◌≡◌, ℕ, Bool, List, ◌++◌, Option, MatchOption}
use Rattle.std.specs.Borrow.{Bor}
use Rattle.ledger_model.specs.Inputs.{Format, Separator, IsSeparator, format_word, switch_word, separator_word}

-- what stands behind the word
abbrev pub CutsWord : List ℕ → List ℕ → Option (Bor (List ℕ)) → Type 0
CutsWord text word result = MatchOption result ((more : List ℕ) → text ≡ word ++ more → ⊥) (λ rest. text ≡ word ++ rest.now)

abbrev pub CutsFormat : List ℕ → Option (Bor (List ℕ)) → Type 0
CutsFormat text result = MatchOption result ((f : Format) (more : List ℕ) → text ≡ format_word f ++ more → ⊥) (λ rest. (f : Format) × (text ≡ format_word f ++ rest.now))

abbrev pub CutsSwitch : List ℕ → Option (Bor (List ℕ)) → Type 0
CutsSwitch text result = MatchOption result ((on : Bool) (more : List ℕ) → text ≡ switch_word on ++ more → ⊥) (λ rest. (on : Bool) × (text ≡ switch_word on ++ rest.now))

abbrev pub CutsSeparator : List ℕ → Option (Bor (List ℕ)) → Type 0
CutsSeparator text result = MatchOption result ((s : Separator) (more : List ℕ) → IsSeparator s → text ≡ separator_word s ++ more → ⊥) (λ rest. (s : Separator) × IsSeparator s × (text ≡ separator_word s ++ rest.now))
