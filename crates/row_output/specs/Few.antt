-- How many rows an order was given at most, and that none was.
use Rattle.std.specs.Prelude.{◌≡◌, ℕ}
use Rattle.row_output.specs.declared.kept.Kept.{Kept}
use Rattle.row_output.specs.declared.kept.Kept.TheVariants as K

abbrev pub places_in : Kept → ℕ
places_in K.All = 0
places_in (K.Ordered ordering) = ordering.places

-- rows go on as they come, and none is kept
abbrev pub GoOn : Kept → Type 0
GoOn kept = kept ≡ K.All
