-- The parts of a line.
use Rattle.std.specs.Prelude.{ℕ, ◌+◌, ◌==◌, List, [], ◌∷◌, take, drop, if◌then◌else◌, Option, Some, None, option_map, option_and_then, position}
use Rattle.std.specs.List.{position_or_len}
use Rattle.ncsa_input.specs.declared.shape.Shape.{Shape}
use Rattle.ncsa_input.specs.declared.shape.Shape.TheVariants.{Word, Bracketed, Quoted}

-- a part's bytes, and what is left behind it
abbrev pub Taken : Type 0
Taken = Option (List ℕ × List ℕ)

-- what stands before a place, where there is one, and what is left behind the byte there
abbrev pub closed_at : List ℕ → Option ℕ → Taken
closed_at inner place = option_map (λ at. (take at inner, drop (at + 1) inner)) place

-- where the quote stands that ends a quoted part; a backslash and the byte behind it end none
abbrev pub closing : List ℕ → Option ℕ
closing [] = None
closing (b ∷ []) = if b == 34 then Some 0 else None
closing (b ∷ c ∷ bs) =
    if b == 34 then Some 0
    else if b == 92 then option_map (λ at. at + 2) (closing bs)
    else option_map (λ at. at + 1) (closing (c ∷ bs))

-- bytes up to the next space
abbrev pub taken_word : List ℕ → Taken
taken_word text = let size = position_or_len (λ b. b == 32) text in if size == 0 then None else Some (take size text, drop size text)

-- what is left of a text behind its first byte, where that is the one that opens a part
abbrev pub behind : ℕ → List ℕ → Option (List ℕ)
behind opening [] = None
behind opening (b ∷ bs) = if b == opening then Some bs else None

-- what stands between `[` and the first `]`
abbrev pub taken_bracketed : List ℕ → Taken
taken_bracketed text = option_and_then (λ inner. closed_at inner (position (λ b. b == 93) inner)) (behind 91 text)

-- what stands between quotes
abbrev pub taken_quoted : List ℕ → Taken
taken_quoted text = option_and_then (λ inner. closed_at inner (closing inner)) (behind 34 text)

-- what a part takes from the front of a text
unfoldable pub taken : Shape → List ℕ → Taken
taken Word text = taken_word text
taken Bracketed text = taken_bracketed text
taken Quoted text = taken_quoted text
