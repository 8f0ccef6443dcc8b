use Rattle.std.proofs.Common.{◌-◌, length, refl, ◌∙◌}
use Rattle.text_functions.proofs.CharacterLemmas.{front_of}
use Rattle.text_functions.proofs.characters.front.Goals as goal

pub overflow_sub-size : goal.overflow_sub-size
overflow_sub-size c = (front_of c.args.text.now c.behind.result.now c.args.count (length c.args.text.now - length c.behind.result.now) c.utf8.text c.behind.utf8 c.behind.ensures refl).2

pub split_at-requires : goal.split_at-requires
split_at-requires c = (front_of c.args.text.now c.behind.result.now c.args.count (length c.args.text.now - length c.behind.result.now) c.utf8.text c.behind.utf8 c.behind.ensures refl).0

pub returns : goal.returns
returns c =
    c.split_at.ensures.front ∙ (front_of c.args.text.now c.behind.result.now c.args.count (length c.args.text.now - length c.behind.result.now) c.utf8.text c.behind.utf8 c.behind.ensures refl).1
