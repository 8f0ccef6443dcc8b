use Rattle.std.proofs.Common.{rules, ◌≡◌, ℕ, length, refl, subst}
use Rattle.ledger.specs.Reader.{Stood, RefusedShort}
use Rattle.ledger.proofs.Composing.{handed}
use Rattle.ledger.proofs.Resting.{rests_holds}
use Rattle.ledger.proofs.Payloads.{can_new}
use Rattle.ledger.proofs.Pairs.{pair_front, pair_short, pair_closed, pair_broken, pair_walked}
use Rattle.ledger.proofs.walking.walk_pair.Goals as goal

pub returns-in_err-take-clause-walks : goal.returns-in_err-take-clause-walks
returns-in_err-take-clause-walks g c = λ file holds is.
    let can = can_new _ c.args.ledger.now file c.args.size c.new-reader.result holds c.new-reader.ensures.to c.new-reader.ensures.ahead in
    let t = c.in_err-take.ensures.reads file c.args.size can in
    handed c.from_residual.result c.in_err-take.field-0.0 _ _ c.from_residual.ensures.1
    (pair_short file c.args.size c.args.place c.in_err-take.field-0.0 is c.requires.within (subst (λ (n : ℕ). RefusedShort file c.args.size n 2 c.in_err-take.field-0.0) c.new-reader.ensures.at t.1))

pub returns-then-bytes-clause-walks : goal.returns-then-bytes-clause-walks
returns-then-bytes-clause-walks g c = λ file holds is.
    let can = can_new _ c.args.ledger.now file c.args.size c.new-reader.result holds c.new-reader.ensures.to c.new-reader.ensures.ahead in
    let t = c.in_ok-take.ensures.reads file c.args.size can in
    let stood = subst (λ (n : ℕ). Stood file c.args.size n c.take.new.self.at c.take.new.into) c.new-reader.ensures.at t.1 in
    let two : length c.take.new.into ≡ 2 = search rules in
    pair_closed file c.args.place _ _ _ (pair_front file c.args.size c.args.place c.take.new.self.at c.take.new.into is stood two) c.if-bytes.true

pub returns-in_err-length-clause-walks : goal.returns-in_err-length-clause-walks
returns-in_err-length-clause-walks g c = λ file holds is.
    let can = can_new _ c.args.ledger.now file c.args.size c.new-reader.result holds c.new-reader.ensures.to c.new-reader.ensures.ahead in
    let t = c.in_ok-take.ensures.reads file c.args.size can in
    let stood = subst (λ (n : ℕ). Stood file c.args.size n c.take.new.self.at c.take.new.into) c.new-reader.ensures.at t.1 in
    let two : length c.take.new.into ≡ 2 = search rules in
    let there = rests_holds _ _ c.args.ledger.now file c.take.ensures.rests holds in
    handed c.from_residual-in_err-length.result c.in_err-length.field-0.0 _ _ c.from_residual-in_err-length.ensures.1
    (pair_broken file c.args.place _ _ c.in_err-length.field-0.0 (pair_front file c.args.size c.args.place c.take.new.self.at c.take.new.into is stood two) c.if-bytes.false (c.in_err-length.ensures.walks file there is))

pub returns-clause-walks : goal.returns-clause-walks
returns-clause-walks g c = λ file holds is.
    let can = can_new _ c.args.ledger.now file c.args.size c.new-reader.result holds c.new-reader.ensures.to c.new-reader.ensures.ahead in
    let t = c.in_ok-take.ensures.reads file c.args.size can in
    let stood = subst (λ (n : ℕ). Stood file c.args.size n c.take.new.self.at c.take.new.into) c.new-reader.ensures.at t.1 in
    let two : length c.take.new.into ≡ 2 = search rules in
    let there = rests_holds _ _ c.args.ledger.now file c.take.ensures.rests holds in
    pair_walked file c.args.place _ _ c.in_ok-length.length _ (pair_front file c.args.size c.args.place c.take.new.self.at c.take.new.into is stood two) c.if-bytes.false (c.in_ok-length.ensures.walks file there is) refl
