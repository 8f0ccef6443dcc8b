-- What the search for a pattern answers.
use Rattle.std.specs.Prelude.{ℕ, List, drop}
use Rattle.lp_outside.specs.Matching.{MatchesPart}
use Rattle.lp_outside.specs.declared.matching.Found.{Found}
use Rattle.lp_outside.specs.declared.matching.Found.TheVariants.{Here, NotHere, Nowhere}

-- the text matches; or it doesn't; or what is left of it behind any bytes doesn't
abbrev pub IsFound : List ℕ → List ℕ → Found → Type 0
IsFound pattern text Here = MatchesPart pattern text
IsFound pattern text NotHere = ¬ (MatchesPart pattern text)
IsFound pattern text Nowhere = (skipped : ℕ) → ¬ (MatchesPart pattern (drop skipped text))
