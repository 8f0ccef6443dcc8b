use Rattle.generations.proofs.Sets.{numbers_none, numbers_step}
use Rattle.generations.proofs.there.numbers_in.Goals as goal

pub loop-name-init : goal.loop-name-init
loop-name-init c = record { items = c.as_slice-name-items.ensures; are = numbers_none c.args.front.now c.new-numbers.result c.new-numbers.ensures.empty }

pub loop-name-preserved : goal.loop-name-preserved
loop-name-preserved c = record {
  items = c.loop-name.invariant.items;
  are = numbers_step c.args.front.now c.as_slice-name-items.result.now c.loop-name.name-index c.name-item.result c.loop-name.numbers c.add_number.new.numbers c.loop-name-test.true c.name-item.is c.loop-name.invariant.are c.in_ok-add_number.ensures;
}
