-- Which texts are like a pattern, both as characters.
use Rattle.std.specs.Prelude.{◌≡◌, ℕ, Bool, ◌==◌, ◌||◌, IsTrue, MatchBool, List, [], ◌∷◌, ◌++◌}
use Rattle.std.specs.Char.{to_ascii_lowercase}

-- whether a character of a pattern that isn't `%` stands for a character: `_` for each, another for itself, in either case of a letter of ASCII
abbrev pub stands_for : ℕ → ℕ → Bool
stands_for p c = p == 95 || to_ascii_lowercase p == to_ascii_lowercase c

-- `%` stands for any text, also an empty one
unfoldable pub Likes : List ℕ → List ℕ → Type 0
Likes [] text = text ≡ []
Likes (p ∷ pattern) text = MatchBool (p == 37)
    ((skipped : List ℕ) × (rest : List ℕ) × (text ≡ skipped ++ rest) × Likes pattern rest)
    ((c : ℕ) × (rest : List ℕ) × (text ≡ c ∷ rest) × IsTrue (stands_for p c) × Likes pattern rest)
