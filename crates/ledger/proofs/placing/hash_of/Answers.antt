use Rattle.std.proofs.Common.{ℕ, List, ◌+◌, ◌*◌, ◌%◌, ◌^◌, ◌<◌, length, drop, sym, ◌∙◌, ap, arith}
use Rattle.ledger.specs.Placing.{hash_on}
use Rattle.ledger.proofs.Comparing.{hash_step, hash_end}
use Rattle.ledger.proofs.placing.hash_of.Goals as goal

pub loop-byte-preserved : goal.loop-byte-preserved
loop-byte-preserved c =
    let bytes = c.as_bytes-bytes.result.now in
    let lt : c.loop-byte.byte-index < length bytes = omega arith in
    c.loop-byte.invariant ∙ hash_step bytes c.loop-byte.byte-index c.loop-byte.hash lt ∙ ap (λ (b : ℕ). hash_on (((c.loop-byte.hash * 1_099_511_628_211) % 2 ^ 64 + b) % 2 ^ 64) (drop (c.loop-byte.byte-index + 1) bytes)) (sym c.from.ensures)

pub returns : goal.returns
returns c =
    let bytes = c.as_bytes-bytes.result.now in
    sym (c.loop-byte.invariant ∙ hash_end bytes c.loop-byte.byte-index c.loop-byte.hash (omega arith)) ∙ ap (λ (l : List ℕ). hash_on 0 l) (c.as_bytes-bytes.ensures.value ∙ c.as_str.ensures.text)
