use Rattle.std.proofs.Common.{◌≡◌, ◌<◌, ◌≤◌, ℕ, List, length, take, sym, ◌∙◌, ap, subst, ⊎_elim, arith}
use Rattle.std.proofs.lemmas.Result.{IfOk-from_err}
use Rattle.ledger.specs.Reader.{Stood, left_of}
use Rattle.ledger.proofs.Moving.{skipped}
use Rattle.ledger.proofs.reader.EntryReader.take_piece.Goals as goal

pub returns-clause-reads : goal.returns-clause-reads
returns-clause-reads g c = λ file to can.
    let size : length c.copy_from_slice.new.self ≡ length c.args.piece.now = c.copy_from_slice.ensures.len in
    let le : length c.copy_from_slice.new.self ≤ length c.load.new.self.ahead = omega (arith, ap length c.ahead-ahead.ensures, c.if-ahead-piece.false, size) in
    let both = skipped _ c.args.ledger.now file to c.load.new.self c.skip.new.self (length c.copy_from_slice.new.self) (c.load.ensures.reads file to can) le c.skip.ensures.at c.skip.ensures.to c.skip.ensures.ahead in
    let bytes : take (length c.copy_from_slice.new.self) c.load.new.self.ahead ≡ c.copy_from_slice.new.self = ap (λ (n : ℕ). take n c.load.new.self.ahead) size ∙ ap (take (length c.args.piece.now)) (sym c.ahead-ahead.ensures) ∙ sym c.copy_from_slice.ensures.after in
    (both.0, subst (λ (n : ℕ). Stood file to n c.skip.new.self.at c.copy_from_slice.new.self) c.load.ensures.at (subst (λ (t : List ℕ). Stood file to c.load.new.self.at c.skip.new.self.at t) bytes both.1))

pub returns-in_err-load-clause-reads : goal.returns-in_err-load-clause-reads
returns-in_err-load-clause-reads g c = λ file to can. (c.load.ensures.reads file to can, IfOk-from_err c.from_residual.result _ c.from_residual.ensures.0)

pub returns-then-ahead-piece-clause-reads : goal.returns-then-ahead-piece-clause-reads
returns-then-ahead-piece-clause-reads g c = λ file to can.
    let fewer : length c.load.new.self.ahead < length c.args.piece.now = omega (arith, ap length c.ahead-ahead.ensures, c.if-ahead-piece.true) in
    let goes : length (left_of file to c.args.self.now.at) < length c.args.piece.now =
    ⊎_elim (λ many. absurd (omega (arith, many, fewer))) (λ all. omega (arith, ap length all, fewer)) (c.in_ok-load.ensures.enough file to can) in
    (c.load.ensures.reads file to can, goes)
