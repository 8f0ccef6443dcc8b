use Rattle.std.proofs.Common.{◌≡◌, take, length, ◌∙◌, ap, subst, List, ℕ, rules}
use Rattle.std.proofs.lemmas.List.{take-take}
use Rattle.lp_model.specs.Outside.{Gains}
use Rattle.lp_outside.proofs.Moving.{Moves_step}
use Rattle.lp_outside.proofs.writing.write_all.Goals as goal

pub loop-rest-preserved : goal.loop-rest-preserved
loop-rest-preserved g c =
    let rest = c.loop-rest.rest.now in
    let first = c.first_of.result.now in
    let count = c.in_ok-count.count in
    let few = c.in_ok-count.ensures.count in
    let same : take count first ≡ take count rest = ap (take count) c.first_of.ensures.front ∙ take-take count (length first) rest few in
    let gains = subst (λ (t : List ℕ). Gains (g.S.Sink.written c.loop-rest.out) (g.S.Sink.written c.write.new.self) t) same c.in_ok-count.ensures.bytes in
    let moves = Moves_step _ _ _ _ _ count c.loop-rest.invariant.moves gains in
    record { moves = rw c.bytes_from-rest.ensures moves; later = search rules; same = search rules }
