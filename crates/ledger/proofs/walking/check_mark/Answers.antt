use Rattle.std.proofs.Common.{rules, ◌≡◌, ℕ, length, ◌∙◌, subst, arith}
use Rattle.ledger.specs.Reader.{Stood, RefusedShort}
use Rattle.ledger_model.specs.Ledgers.{mark}
use Rattle.ledger.proofs.Composing.{handed}
use Rattle.ledger.proofs.Payloads.{can_new}
use Rattle.ledger.proofs.Pairs.{mark_read, mark_short, mark_other, lists_apart, lists_same}
use Rattle.ledger.proofs.walking.check_mark.Goals as goal

pub returns-in_err-take-clause-looks : goal.returns-in_err-take-clause-looks
returns-in_err-take-clause-looks g c = λ file holds is.
    let can = can_new _ c.args.ledger.now file c.args.size c.new-reader.result holds c.new-reader.ensures.to c.new-reader.ensures.ahead in
    let t = c.in_err-take.ensures.reads file c.args.size can in
    handed c.from_residual.result c.in_err-take.field-0.0 _ _ c.from_residual.ensures.1
    (mark_short file c.args.size c.in_err-take.field-0.0 is c.requires (subst (λ (n : ℕ). RefusedShort file c.args.size n 16 c.in_err-take.field-0.0) c.new-reader.ensures.at t.1))

pub returns-then-ne-clause-looks : goal.returns-then-ne-clause-looks
returns-then-ne-clause-looks g c = λ file holds is.
    let can = can_new _ c.args.ledger.now file c.args.size c.new-reader.result holds c.new-reader.ensures.to c.new-reader.ensures.ahead in
    let t = c.in_ok-take.ensures.reads file c.args.size can in
    let stood = subst (λ (n : ℕ). Stood file c.args.size n c.take.new.self.at c.take.new.into) c.new-reader.ensures.at t.1 in
    let sixteen : length c.take.new.into ≡ 16 = search rules in
    mark_other file c.take.new.into c.damaged.result (omega (arith, is, c.requires)) (mark_read file c.args.size c.take.new.self.at c.take.new.into is stood sixteen) (lists_apart c.take.new.into mark c.ne.result c.ne.ensures c.if-ne.true) c.damaged.ensures

pub returns-clause-looks : goal.returns-clause-looks
returns-clause-looks g c = λ file holds is.
    let can = can_new _ c.args.ledger.now file c.args.size c.new-reader.result holds c.new-reader.ensures.to c.new-reader.ensures.ahead in
    let t = c.in_ok-take.ensures.reads file c.args.size can in
    let stood = subst (λ (n : ℕ). Stood file c.args.size n c.take.new.self.at c.take.new.into) c.new-reader.ensures.at t.1 in
    let sixteen : length c.take.new.into ≡ 16 = search rules in
    mark_read file c.args.size c.take.new.self.at c.take.new.into is stood sixteen ∙ lists_same c.take.new.into mark c.ne.result c.ne.ensures c.if-ne.false
