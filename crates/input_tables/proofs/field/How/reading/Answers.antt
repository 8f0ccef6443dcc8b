use Rattle.std.proofs.Common.{refl}
use Rattle.lp_time.specs.Patterns.{pieces_from}
use Rattle.input_tables.proofs.field.How.reading.Goals as goal

pub by-requires : goal.by-requires
unfolding pieces_from
by-requires c = refl

pub by-requires-in-Clock : goal.by-requires-in-Clock
unfolding pieces_from
by-requires-in-Clock c = refl
