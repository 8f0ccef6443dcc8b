use Rattle.std.proofs.Common.{◌≡◌, ◌≤◌, inl, inr, ⊎_elim, ℕ, length, take, drop, ◌∙◌, ap, subst, arith}
use Rattle.std.proofs.lemmas.List.{length-take}
use Rattle.ledger.specs.Reader.{Stood}
use Rattle.ledger.proofs.Moving.{skipped}
use Rattle.ledger.proofs.Fronts.{passes_some}
use Rattle.std.proofs.lemmas.Result.{IfOk-from_err}
use Rattle.ledger.proofs.passing.pass_some.Goals as goal

pub returns-in_err-load-clause-passes : goal.returns-in_err-load-clause-passes
returns-in_err-load-clause-passes g c = λ file to can. (c.load.ensures.reads file to can, IfOk-from_err c.from_residual.result _ c.from_residual.ensures.0)

pub returns-clause-passes : goal.returns-clause-passes
returns-clause-passes g c = λ file to can.
    let loaded = c.load.ensures.reads file to can in
    let ahead : c.ahead-ahead.result.now ≡ c.load.new.self.ahead = c.ahead-ahead.ensures in
    let le : c.text_front-count.result ≤ length c.load.new.self.ahead = omega (arith, c.text_front-count.ensures.within, ap length ahead, length-take {A = ℕ}) in
    let both = skipped _ c.args.ledger.now file to c.load.new.self c.skip.new.self c.text_front-count.result loaded le c.skip.ensures.at c.skip.ensures.to c.skip.ensures.ahead in
    let at : c.load.new.self.at ≡ c.args.reader.now.at = c.load.ensures.at in (
      both.0,
      passes_some c.args.kind file to c.args.reader.now.at c.skip.new.self.at c.args.most c.text_front-count.result c.min-2.result c.load.new.self.ahead (take c.min-2.result c.ahead-ahead.result.now)
          c.requires
          (loaded.ahead ∙ ap (λ (n : ℕ). take (length c.load.new.self.ahead) (drop n file)) at)
          (omega (arith, loaded.within, at))
          (⊎_elim (λ many. inl (omega (arith, many, c.min.ensures))) (λ all. inr all) (c.in_ok-load.ensures.enough file to can))
          (ap (take c.min-2.result) ahead)
          (omega (arith, c.min-2.ensures, c.min-room.ensures, ap length ahead))
          c.text_front-count.ensures.within c.text_front-count.ensures.is c.text_front-count.ensures.longest
          (subst (λ (n : ℕ). Stood file to n c.skip.new.self.at (take c.text_front-count.result c.load.new.self.ahead)) at both.1),
    )
