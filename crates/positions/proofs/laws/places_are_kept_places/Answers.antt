use Rattle.positions.proofs.KeptPlaces.{place_kept}
use Rattle.positions.proofs.laws.places_are_kept_places.Goals as goal

pub returns : goal.returns
returns c = place_kept
