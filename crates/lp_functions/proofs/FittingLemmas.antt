-- Many kinds at places of one set.
use Rattle.std.proofs.Common.{◌≡◌, List, [], ◌∷◌, ◌&&◌, Bool, length, replicate, refl, ap}
use Rattle.std.specs.List.{list_all}
use Rattle.lp_values.specs.declared.kind.Kind.{Kind}
use Rattle.lp_functions.specs.declared.place.Place.{Place}
use Rattle.lp_functions.specs.Fitting.{takes, fits}

pub fits_all : (place : Place) (kinds : List Kind) → fits (replicate (length kinds) place) kinds ≡ list_all (takes place) kinds
fits_all place [] = refl
fits_all place (kind ∷ kinds) = ap (λ (b : Bool). takes place kind && b) (fits_all place kinds)
