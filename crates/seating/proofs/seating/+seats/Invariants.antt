use Rattle.std.proofs.Common.{◌≡◌, map, take}
use Rattle.query_types.specs.Terms.{term_of}
use Rattle.seating.specs.Gathered.{counted_of, seated}
use Rattle.senses.specs.Senses.{sense_of}
use Rattle.seating.proofs.seating.+seats.Given as goal

abbrev pub invariant-seat_formed-loop-part : goal.invariant-seat_formed-loop-part
invariant-seat_formed-loop-part l = map term_of l.parts.items ≡ map (seated (map sense_of l.keys) (map counted_of l.found)) (map sense_of (take l.part-index l.of))
