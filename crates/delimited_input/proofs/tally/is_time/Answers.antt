use Rattle.std.proofs.Common.{◌≡◌, Option, Some, None, option_map, is_some, refl, ap, ◌∙◌}
use Rattle.delimited_input.specs.Kinds.{is_time}
use Rattle.delimited_input.proofs.tally.is_time.Goals as goal

mapped : {X Y : Type 0} (f : X → Y) (r : Option X) → is_some r ≡ is_some (option_map f r)
mapped f None = refl
mapped f (Some x) = refl

pub returns : goal.returns
unfolding is_time
returns c = c.is_some.ensures ∙ (mapped (λ s. s.seconds) c.read_stamp.result ∙ ap is_some c.read_stamp.ensures.seconds)
