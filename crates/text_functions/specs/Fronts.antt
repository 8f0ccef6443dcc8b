-- What the first characters of a pattern, up to its first `%`, say of a text.
use Rattle.std.specs.Prelude.{◌<◌, ◌≤◌, ◌↔◌, ℕ, IsTrue, List, ◌∷◌, length}
use Rattle.std.specs.Bool.{⊤}
use Rattle.std.specs.Str.{chars, IsUtf8}
use Rattle.text_functions.specs.Likes.{Likes}
use Rattle.text_functions.specs.declared.likeness.Front.{Front}
use Rattle.text_functions.specs.declared.likeness.Front.TheVariants.{Whole, Percent}

-- the answer; or what is left answers for the text, also where a `%` stands before the pattern
abbrev pub IsFront : List ℕ → List ℕ → Front → Type 0
IsFront pattern text (Whole is_like) = IsTrue is_like ↔ Likes pattern text
IsFront pattern text (Percent rest behind) =
    (Likes pattern text ↔ Likes (37 ∷ chars behind.now) (chars rest.now))
    × (Likes (37 ∷ pattern) text ↔ Likes (37 ∷ chars behind.now) (chars rest.now))

-- the same of a pattern with a `%` before it
abbrev pub IsBehindPercent : List ℕ → List ℕ → Front → Type 0
IsBehindPercent pattern text (Whole is_like) = IsTrue is_like ↔ Likes (37 ∷ pattern) text
IsBehindPercent pattern text (Percent rest behind) = Likes (37 ∷ pattern) text ↔ Likes (37 ∷ chars behind.now) (chars rest.now)

-- less is left
abbrev pub IsShorter : List ℕ → List ℕ → Front → Type 0
IsShorter pattern text (Whole is_like) = ⊤
IsShorter pattern text (Percent rest behind) = (length behind.now < length pattern) × (length rest.now ≤ length text)

-- what is left is UTF-8
abbrev pub IsText : Front → Type 0
IsText (Whole is_like) = ⊤
IsText (Percent rest behind) = IsUtf8 rest.now × IsUtf8 behind.now
