use Rattle.std.proofs.Common.{◌∙◌, sym}
use Rattle.seating.specs.Gathered.{counted_of, same_counted}
use Rattle.senses.specs.Senses.{sense_of}
use Rattle.senses.proofs.Found.{position_map}
use Rattle.seating.proofs.gathering.aggregate_place.Goals as goal

pub returns : goal.returns
returns c = c.place_of_counted.ensures ∙ sym (position_map (same_counted c.args.how (sense_of c.args.of.now)) counted_of c.args.found.now)
