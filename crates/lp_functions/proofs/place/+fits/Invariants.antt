use Rattle.std.proofs.Common.{length}
use Rattle.lp_functions.proofs.place.+fits.Given as goal

abbrev pub decreases-fits : goal.decreases-fits
decreases-fits l = length l.places.now
