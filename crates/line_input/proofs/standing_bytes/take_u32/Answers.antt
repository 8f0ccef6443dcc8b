use Rattle.std.proofs.Math.Facts.{Fits-lt-pow}
use Rattle.line_input.proofs.Fronts.{front_u32}
use Rattle.line_input.proofs.standing_bytes.take_u32.Goals as goal

pub returns : goal.returns
returns c =
    let parts = c.in_ok-front.ensures.cases in
    front_u32 c.args.bytes.now c.in_ok-front.front.now c.in_ok-front.rest.now c.from_le_bytes.result parts.0 parts.1 parts.2 (λ i. Fits-lt-pow (c.type_inv.bytes i)) c.from_le_bytes.type_inv c.from_le_bytes.ensures
