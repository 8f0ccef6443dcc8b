use Rattle.generations.proofs.Sets.{number_more, number_same}
use Rattle.generations.proofs.there.add_number.Goals as goal

pub returns-in_ok-insert-in-Some : goal.returns-in_ok-insert-in-Some
returns-in_ok-insert-in-Some c = number_more c.args.front.now c.args.name.now c.in-Some.number c.args.numbers.now c.insert.new.self c.in-Some.ensures c.in_ok-insert-in-Some.ensures.updates.0

pub returns-in-None : goal.returns-in-None
returns-in-None c = number_same c.args.front.now c.args.name.now c.args.numbers.now c.in-None.ensures
