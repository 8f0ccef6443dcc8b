use Rattle.std.proofs.Common.{◌<◌, ◌^◌, ℕ, subst, lit≤, arith}
use Rattle.ledger.specs.Reader.{Checks}
use Rattle.ledger.proofs.Composing.{handed, narrowed, misfit, refused_narrower, refused_here}
use Rattle.ledger.proofs.Counting.{counted_unsized, checks_counted}
use Rattle.ledger_model.specs.Numbers.{u32_bytes}
use Rattle.ledger_model.specs.Layouts.{listed, field}
use Rattle.ledger_model.specs.Grammar.{output_layout}
use Rattle.ledger_model.proofs.Fields.{count_law}
use Rattle.ledger.proofs.placing.outputs.Goals as goal

pub returns-in_err-count-clause-looks : goal.returns-in_err-count-clause-looks
returns-in_err-count-clause-looks g c = λ file to can.
    let k = c.in_err-count.ensures.gives file to can in
    (k.0, handed c.from_residual.result c.in_err-count.field-0.0 _ _ c.from_residual.ensures.1 (counted_unsized u32_bytes 10001 output_layout file to _ _ (refused_narrower (λ n. n < 2 ^ 32) (λ n. n < 10001) u32_bytes (λ n fits. omega arith) file to _ _ k.1)))

pub returns-then-count-gt10000-clause-looks : goal.returns-then-count-gt10000-clause-looks
returns-then-count-gt10000-clause-looks g c = λ file to can.
    let k = c.in_ok-count.ensures.gives file to can in (
      k.0,
      counted_unsized u32_bytes 10001 output_layout file to _ _ (refused_here (field (λ n. n < 10001) u32_bytes) file to c.args.reader.now.at c.place-place.result c.damaged.result c.damaged.ensures c.place-place.ensures
          (misfit (λ n. n < 2 ^ 32) (λ n. n < 10001) u32_bytes (count_law (2 ^ 32) (lit≤ tt)) (λ n fits. omega arith) file to _ _ _ k.1 (λ fits. omega (arith, c.if-count-gt10000.true)))),
    )

pub returns-clause-looks : goal.returns-clause-looks
returns-clause-looks g c = λ file to can.
    let k = c.in_ok-count.ensures.gives file to can in
    let t = c.output_items.ensures.looks file to k.0 in (
      t.0,
      checks_counted u32_bytes 10001 output_layout file to _ _ _ _ (narrowed (λ n. n < 2 ^ 32) (λ n. n < 10001) u32_bytes file to _ _ _ k.1 (omega (arith, c.if-count-gt10000.false))) c.output_items.result
          (subst (λ (n : ℕ). Checks (listed output_layout n) file to c.word.new.self.at c.output_items.new.reader.at c.output_items.result) (omega (arith, c.from.ensures)) t.1),
    )
