-- A field of a line, and what stands behind it.
use Rattle.std.specs.Prelude.{◌≡◌, ◌≤◌, ◌==◌, ◌&&◌, ℕ, Bool, true, false, List, [], ◌∷◌, ◌++◌, length, drop, Some, None}
use Rattle.std.specs.Bool.{⊤}
use Rattle.line_input.specs.declared.slot.Slot.{Slot}
use Rattle.line_input.specs.Taken.{slots_of}
use Rattle.delimited_input.specs.Fields.{Cut}
use Rattle.delimited_input.specs.Lines.{slot_of}
use Rattle.delimited_input.specs.declared.piece.Step.{Step}
use Rattle.delimited_input.specs.declared.piece.Step.TheVariants.{Next, Last, Other}

-- a quote stands at the front
abbrev pub is_opened : List ℕ → Bool
is_opened [] = false
is_opened (b ∷ bs) = b == 34

-- two quotes stand at the front
abbrev pub is_doubled : List ℕ → Bool
is_doubled [] = false
is_doubled (b ∷ []) = false
is_doubled (b ∷ c ∷ bs) = (b == 34) && (c == 34)

-- bytes, and a field behind them
abbrev pub behind_bytes : List ℕ → Cut → Cut
behind_bytes bytes cut = (bytes ++ cut.0, cut.1)

-- a field has no bytes more, and this is left behind it
abbrev pub IsBehind : Cut → List ℕ → Step → Type 0
IsBehind cut line (Next next) = (cut ≡ ([], Some (drop next line))) × (next ≤ length line)
IsBehind cut line Last = cut ≡ ([], None)
IsBehind cut line Other = ⊤

-- a row has this field more
abbrev pub Adds : List ℕ → List Slot → List Slot → List ℕ → Type 0
Adds line old new field = slots_of line new ≡ slots_of line old ++ slot_of field ∷ []

-- a field is added to a row, and this is left behind it; only where fields may stand in quotes is there another answer
abbrev pub IsStep : Bool → Cut → List ℕ → List Slot → List Slot → Step → Type 0
IsStep quotes cut line old new (Next next) = Adds line old new cut.0 × (cut.1 ≡ Some (drop next line)) × (next ≤ length line)
IsStep quotes cut line old new Last = Adds line old new cut.0 × (cut.1 ≡ None)
IsStep quotes cut line old new Other = quotes ≡ true
