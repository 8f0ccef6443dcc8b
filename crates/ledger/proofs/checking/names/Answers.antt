use Rattle.std.proofs.Common.{◌<◌, ◌^◌, ℕ, subst, lit≤, arith}
use Rattle.ledger.specs.Reader.{Checks}
use Rattle.ledger.proofs.Composing.{handed, narrowed, misfit, refused_narrower, refused_here}
use Rattle.ledger.proofs.Counting.{counted_unsized, checks_counted}
use Rattle.ledger_model.specs.Numbers.{u16_bytes}
use Rattle.ledger_model.specs.Layouts.{listed, field}
use Rattle.ledger_model.proofs.Fields.{short_law}
use Rattle.ledger_model.specs.Grammar.{text_field}
use Rattle.ledger.proofs.checking.names.Goals as goal

pub returns-in_err-count-clause-looks : goal.returns-in_err-count-clause-looks
returns-in_err-count-clause-looks g c = λ file to can.
    let k = c.in_err-count.ensures.gives file to can in
    (k.0, handed c.from_residual.result c.in_err-count.field-0.0 _ _ c.from_residual.ensures.1 (counted_unsized u16_bytes 1025 (λ before. text_field) file to _ _ (refused_narrower (λ n. n < 2 ^ 16) (λ n. n < 1025) u16_bytes (λ n fits. omega arith) file to _ _ k.1)))

pub returns-then-count-gt1024-clause-looks : goal.returns-then-count-gt1024-clause-looks
returns-then-count-gt1024-clause-looks g c = λ file to can.
    let k = c.in_ok-count.ensures.gives file to can in (
      k.0,
      counted_unsized u16_bytes 1025 (λ before. text_field) file to _ _ (refused_here (field (λ n. n < 1025) u16_bytes) file to c.args.reader.now.at c.place-place.result c.damaged.result c.damaged.ensures c.place-place.ensures
          (misfit (λ n. n < 2 ^ 16) (λ n. n < 1025) u16_bytes (short_law (2 ^ 16) (lit≤ tt)) (λ n fits. omega arith) file to _ _ _ k.1 (λ fits. omega (arith, c.if-count-gt1024.true)))),
    )

pub returns-clause-looks : goal.returns-clause-looks
returns-clause-looks g c = λ file to can.
    let k = c.in_ok-count.ensures.gives file to can in
    let t = c.texts.ensures.looks file to k.0 in (
      t.0,
      checks_counted u16_bytes 1025 (λ before. text_field) file to _ _ _ _ (narrowed (λ n. n < 2 ^ 16) (λ n. n < 1025) u16_bytes file to _ _ _ k.1 (omega (arith, c.if-count-gt1024.false))) c.texts.result
          (subst (λ (n : ℕ). Checks (listed (λ before. text_field) n) file to c.short.new.self.at c.texts.new.reader.at c.texts.result) (omega (arith, c.from.ensures)) t.1),
    )
