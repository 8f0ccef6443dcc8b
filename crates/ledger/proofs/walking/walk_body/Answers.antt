use Rattle.std.proofs.Common.{drop, rules, ◌≡◌, ◌≤◌, ◌+◌, ◌-◌, ℕ, length, sym, subst, arith}
use Rattle.ledger.proofs.Composing.{handed}
use Rattle.ledger.proofs.Resting.{rests_holds}
use Rattle.ledger.proofs.Payloads.{can_new, body_short, body_cut, body_broken, body_walked}
use Rattle.ledger.specs.Reader.{Stood, RefusedShort, left_of}
use Rattle.ledger.specs.Walking.{RefusedBody, RefusedPayload, IsPayload}
use Rattle.ledger.specs.declared.refused.LedgerRefused.{LedgerRefused}
use Rattle.ledger.proofs.walking.walk_body.Goals as goal

pub returns-in-Err-clause-walks : goal.returns-in-Err-clause-walks
returns-in-Err-clause-walks g c = λ file holds is.
    let can = can_new _ c.args.ledger.now file c.args.size c.new-front.result holds c.new-front.ensures.to c.new-front.ensures.ahead in
    let t = c.in-Err.ensures.reads file c.args.size can in
    subst (λ (r : LedgerRefused). RefusedBody (drop c.args.body file) c.args.body r) (sym c.moved.ensures)
    (body_short file c.args.size c.args.body c.in-Err.refused is (subst (λ (n : ℕ). RefusedShort file c.args.size n 8 c.in-Err.refused) c.new-front.ensures.at t.1))

pub returns-then-left-lt10-clause-walks : goal.returns-then-left-lt10-clause-walks
returns-then-left-lt10-clause-walks g c = λ file holds is.
    let can = can_new _ c.args.ledger.now file c.args.size c.new-front.result holds c.new-front.ensures.to c.new-front.ensures.ahead in
    let t = c.in-Ok.ensures.reads file c.args.size can in
    let stood = subst (λ (n : ℕ). Stood file c.args.size n c.take.new.self.at c.take.new.into) c.new-front.ensures.at t.1 in
    let eight : length c.take.new.into ≡ 8 = search rules in
    body_cut file c.args.size c.args.body _ c.from_le_bytes-length.result c.args.body c.take.new.into c.damaged.result is stood eight c.from_le_bytes-length.ensures (λ le. omega (arith, le, c.if-left-lt10.true)) c.damaged.ensures

pub returns-then-left-length-clause-walks : goal.returns-then-left-length-clause-walks
returns-then-left-length-clause-walks g c = λ file holds is.
    let can = can_new _ c.args.ledger.now file c.args.size c.new-front.result holds c.new-front.ensures.to c.new-front.ensures.ahead in
    let t = c.in-Ok.ensures.reads file c.args.size can in
    let stood = subst (λ (n : ℕ). Stood file c.args.size n c.take.new.self.at c.take.new.into) c.new-front.ensures.at t.1 in
    let eight : length c.take.new.into ≡ 8 = search rules in
    body_cut file c.args.size c.args.body _ c.from_le_bytes-length.result c.args.body c.take.new.into c.damaged-then-left-length.result is stood eight c.from_le_bytes-length.ensures (λ le. omega (arith, le, c.if-left-length.true, c.if-left-lt10.false)) c.damaged-then-left-length.ensures

pub returns-in_err-check_payload-clause-walks : goal.returns-in_err-check_payload-clause-walks
returns-in_err-check_payload-clause-walks g c = λ file holds is.
    let can = can_new _ c.args.ledger.now file c.args.size c.new-front.result holds c.new-front.ensures.to c.new-front.ensures.ahead in
    let t = c.in-Ok.ensures.reads file c.args.size can in
    let stood = subst (λ (n : ℕ). Stood file c.args.size n c.take.new.self.at c.take.new.into) c.new-front.ensures.at t.1 in
    let eight : length c.take.new.into ≡ 8 = search rules in
    let fits : 8 + c.from_le_bytes-length.result + 2 ≤ c.args.size - c.args.body = omega (arith, c.requires.within, c.if-left-lt10.false, c.if-left-length.false) in
    let there = rests_holds _ _ c.args.ledger.now file c.take.ensures.rests holds in
    let next = can_new _ c.args.ledger.now file (c.args.body + 8 + c.from_le_bytes-length.result) c.new-reader.result there c.new-reader.ensures.to c.new-reader.ensures.ahead in
    let broken = c.in_err-check_payload.ensures.looks file (c.args.body + 8 + c.from_le_bytes-length.result) next (omega (arith, is, fits)) in
    let here = subst (λ (n : ℕ). RefusedPayload (left_of file (c.args.body + 8 + c.from_le_bytes-length.result) n) n c.in_err-check_payload.field-0.0) c.new-reader.ensures.at broken in
    handed c.from_residual.result c.in_err-check_payload.field-0.0 _ _ c.from_residual.ensures.1
    (body_broken file c.args.size c.args.body _ c.from_le_bytes-length.result c.take.new.into c.in_err-check_payload.field-0.0 is stood eight c.from_le_bytes-length.ensures fits here)

pub returns-clause-walks : goal.returns-clause-walks
returns-clause-walks g c = λ file holds is.
    let can = can_new _ c.args.ledger.now file c.args.size c.new-front.result holds c.new-front.ensures.to c.new-front.ensures.ahead in
    let t = c.in-Ok.ensures.reads file c.args.size can in
    let stood = subst (λ (n : ℕ). Stood file c.args.size n c.take.new.self.at c.take.new.into) c.new-front.ensures.at t.1 in
    let eight : length c.take.new.into ≡ 8 = search rules in
    let fits : 8 + c.from_le_bytes-length.result + 2 ≤ c.args.size - c.args.body = omega (arith, c.requires.within, c.if-left-lt10.false, c.if-left-length.false) in
    let there = rests_holds _ _ c.args.ledger.now file c.take.ensures.rests holds in
    let next = can_new _ c.args.ledger.now file (c.args.body + 8 + c.from_le_bytes-length.result) c.new-reader.result there c.new-reader.ensures.to c.new-reader.ensures.ahead in
    let payload = c.in_ok-check_payload.ensures.looks file (c.args.body + 8 + c.from_le_bytes-length.result) next (omega (arith, is, fits)) in
    let here = subst (λ (n : ℕ). IsPayload (left_of file (c.args.body + 8 + c.from_le_bytes-length.result) n)) c.new-reader.ensures.at payload in
    body_walked file c.args.size c.args.body _ c.from_le_bytes-length.result c.take.new.into is stood eight c.take.ensures.low c.from_le_bytes-length.ensures (omega arith) fits here
