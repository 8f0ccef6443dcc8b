use Rattle.std.proofs.Common.{◌≡◌, ◌+◌, ◌++◌, ℕ, List, length, min, take, sym, ap, subst, length-append, arith}
use Rattle.std.proofs.lemmas.List.{length-take}
use Rattle.lp_model.specs.Pieces.{IsPiece}
use Rattle.lp_model.proofs.Growing.{OnlyGrow-trans}
use Rattle.requests.proofs.Cutting.{turn}
use Rattle.requests.proofs.file.read_bytes.Goals as goal

pub loop-chunk-preserved : goal.loop-chunk-preserved
loop-chunk-preserved g c =
    let so_far = c.loop-chunk.invariant in
    let here = c.in-Ok.ensures in
    let before = so_far.later in
    let cause = here.cause in
    let after = cause.later in
    let told = g.L.Logs.folder c.read_some.new.logs in
    let piece = subst (λ (at : ℕ). IsPiece told c.args.name.now at c.args.cut (take c.in-Ok.count c.read_some.new.chunk)) c.len-at.ensures here.piece in
    let more = turn (g.L.Logs.folder c.loop-chunk.logs) told c.args.name.now c.args.cut c.loop-chunk.bytes (take c.in-Ok.count c.read_some.new.chunk) here.grows so_far.piece piece in
    let given = here.given in
    let within = so_far.within in
    let given_before = so_far.given in
    let below = here.below in
    let fits = here.fits in
    let at = c.len-at.ensures in
    let size = ap length c.in-Ok-add.ensures.ok in
    let both : length (c.loop-chunk.bytes ++ take c.in-Ok.count c.read_some.new.chunk) ≡ length c.loop-chunk.bytes + length (take c.in-Ok.count c.read_some.new.chunk) = length-append c.loop-chunk.bytes (take c.in-Ok.count c.read_some.new.chunk) in
    let taken : length (take c.in-Ok.count c.read_some.new.chunk) ≡ min c.in-Ok.count (length c.read_some.new.chunk) = length-take c.in-Ok.count c.read_some.new.chunk in
    record {
      grows = OnlyGrow-trans _ _ _ so_far.grows here.grows;
      piece = subst (λ (bytes : List ℕ). IsPiece told c.args.name.now 0 c.args.cut bytes) (sym c.in-Ok-add.ensures.ok) more;
      given = omega arith;
      within = omega arith;
      later = omega arith;
      chunk = omega arith;
    }
