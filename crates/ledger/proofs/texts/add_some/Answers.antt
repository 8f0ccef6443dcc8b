use Rattle.std.proofs.Common.{◌≡◌, ℕ, length, take, sym, ◌∙◌, ap, arith}
use Rattle.std.proofs.lemmas.List.{length-take-le}
use Rattle.ledger.proofs.Wholes.{added_some}
use Rattle.ledger.proofs.texts.add_some.Goals as goal

pub returns-in-Err-clause-adds : goal.returns-in-Err-clause-adds
returns-in-Err-clause-adds g c = λ file end can. (c.load.ensures.reads file end can, tt)

pub returns-in-Err-add-clause-adds : goal.returns-in-Err-add-clause-adds
returns-in-Err-add-clause-adds g c = λ file end can. (c.load.ensures.reads file end can, tt)

pub returns-clause-adds : goal.returns-clause-adds
returns-clause-adds g c = λ file end can.
    let r = c.load.new.self in
    let same : c.ahead-ahead.result.now ≡ r.ahead = c.ahead-ahead.ensures in
    let count : ℕ = length (take c.min.result c.ahead-ahead.result.now) in
    let size : count ≡ c.min.result = length-take-le c.min.result c.ahead-ahead.result.now (omega (arith, c.min.ensures)) in
    let piece : take c.min.result c.ahead-ahead.result.now ≡ take count r.ahead = ap (λ (n : ℕ). take n c.ahead-ahead.result.now) (sym size) ∙ ap (take count) same in
    added_some _ c.args.ledger.now file end c.args.reader.now r c.skip.new.self c.args.to.now c.add.new.self (take c.min.result c.ahead-ahead.result.now) count c.args.most (c.load.ensures.reads file end can) c.load.ensures.at (omega (arith, size, c.min.ensures, ap length same)) c.skip.ensures.at c.skip.ensures.to c.skip.ensures.ahead
    piece c.in-Ok-add.ensures.ok (λ none. omega (arith, none, size, c.min.ensures, c.min-room.ensures, ap length same, c.requires)) (c.in-Ok.ensures.enough file end can)
