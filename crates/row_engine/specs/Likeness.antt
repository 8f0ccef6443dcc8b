-- Which texts are like a pattern, as a test.
use Rattle.std.specs.Prelude.{ℕ, Bool, true, false, ◌&&◌, ◌||◌, ◌==◌, List, [], ◌∷◌, if◌then◌else◌}
use Rattle.text_functions.specs.Likes.{stands_for}

-- whether a test holds of what is left of a text from some place on
abbrev pub holds_behind : (List ℕ → Bool) → List ℕ → Bool
holds_behind test [] = test []
holds_behind test (c ∷ cs) = test (c ∷ cs) || holds_behind test cs

-- whether a text begins with a character for which that of a pattern stands, and a test holds behind it
abbrev pub holds_next : ℕ → (List ℕ → Bool) → List ℕ → Bool
holds_next p test [] = false
holds_next p test (c ∷ cs) = stands_for p c && test cs

abbrev pub is_empty : List ℕ → Bool
is_empty [] = true
is_empty (c ∷ cs) = false

-- `%` stands for any text, `_` for each character, another for itself, in either case of a letter of ASCII
unfoldable pub is_like : List ℕ → List ℕ → Bool
is_like [] text = is_empty text
is_like (p ∷ ps) text = if p == 37 then holds_behind (is_like ps) text else holds_next p (is_like ps) text
