-- A set of rows that has just those of a list, each of which stands there once.
use Rattle.std.specs.Prelude.{◌≡◌, Bool, false, List, [], ◌∷◌, Option, Some, None, if◌then◌else◌}
use Rattle.std.specs.List.{filter, list_any}
use Rattle.order_top.specs.Finish.{Row, same_row}

abbrev pub Mirrors : List Row → List Row → Type 0
Mirrors set rows = (q : Row) → filter (same_row q) rows ≡ (if list_any (same_row q) set then q ∷ [] else [])

-- a row is the one that went
abbrev pub is_gone : Option Row → Row → Bool
is_gone None q = false
is_gone (Some gone) q = same_row gone q
