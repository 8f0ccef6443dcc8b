-- A line byte by byte: what a byte does depends on where it stands.
use Rattle.std.specs.Prelude.{ℕ, Bool, ◌≢◌, ◌==◌, ◌&&◌, if◌then◌else◌, List, [], ◌∷◌}

-- at a field's start, in its plain part, between quotes, or behind a quote that may have closed them
pub data Place : Type 0 where
  Start : Place
  Plain : Place
  Quoted : Place
  Behind : Place

-- what is left of the field at hand, and the fields behind it
abbrev pub Rest : Type 0
Rest = List ℕ × List (List ℕ)

-- a byte more at the front of the field at hand
abbrev pub onto : ℕ → Rest → Rest
onto c rest = (c ∷ rest.0, rest.1)

-- the field at hand ends, and another begins
abbrev pub ended : Rest → Rest
ended rest = ([], rest.0 ∷ rest.1)

-- what the bytes of a line's rest say, from a place
unfoldable pub rest_from : ℕ → Bool → Place → List ℕ → Rest
rest_from sep quotes place [] = ([], [])
rest_from sep quotes Start (c ∷ cs) =
    if quotes && (c == 34) then rest_from sep quotes Quoted cs
    else if c == sep then ended (rest_from sep quotes Start cs)
    else onto c (rest_from sep quotes Plain cs)
rest_from sep quotes Plain (c ∷ cs) =
    if c == sep then ended (rest_from sep quotes Start cs)
    else onto c (rest_from sep quotes Plain cs)
rest_from sep quotes Quoted (c ∷ cs) =
    if quotes && (c == 34) then rest_from sep quotes Behind cs
    else onto c (rest_from sep quotes Quoted cs)
rest_from sep quotes Behind (c ∷ cs) =
    if quotes && (c == 34) then onto c (rest_from sep quotes Quoted cs)
    else if c == sep then ended (rest_from sep quotes Start cs)
    else onto c (rest_from sep quotes Plain cs)

abbrev pub all_of : Rest → List (List ℕ)
all_of rest = rest.0 ∷ rest.1

-- the fields of a line
abbrev pub line_fields : ℕ → Bool → List ℕ → List (List ℕ)
line_fields sep quotes line = all_of (rest_from sep quotes Start line)

-- a byte that ends no line
abbrev pub IsInLine : ℕ → Type 0
IsInLine c = (c ≢ 13) × (c ≢ 10)
