use Rattle.std.proofs.Common.{◌<◌, ◌+◌, ◌^◌, arith}
use Rattle.ledger_model.specs.Layouts.{field, behind}
use Rattle.ledger_model.specs.Numbers.{number, u64_bytes}
use Rattle.ledger_model.proofs.Fields.{number_law}
use Rattle.ledger.proofs.Composing.{handed, narrowed, misfit, refused_narrower, refused_first, refused_second, read_both, refused_here}
use Rattle.ledger.proofs.placing.take_place.Goals as goal

pub returns-in_err-base-clause-takes : goal.returns-in_err-base-clause-takes
returns-in_err-base-clause-takes g c = λ file to can.
    let b = c.in_err-base.ensures.gives file to can in
    (b.0, handed c.from_residual.result c.in_err-base.field-0.0 _ _ c.from_residual.ensures.1 (refused_first number (λ base. behind (field (λ size. (size < 2 ^ 64) × (base + size < 2 ^ 63)) u64_bytes) (λ size. number)) file to _ _ b.1))

pub returns-in_err-length-clause-takes : goal.returns-in_err-length-clause-takes
returns-in_err-length-clause-takes g c = λ file to can.
    let b = c.in_ok-base.ensures.gives file to can in
    let s = c.in_err-length.ensures.gives file to b.0 in (
      s.0,
      handed c.from_residual-in_err-length.result c.in_err-length.field-0.0 _ _ c.from_residual-in_err-length.ensures.1
          (refused_second number (λ base. behind (field (λ size. (size < 2 ^ 64) × (base + size < 2 ^ 63)) u64_bytes) (λ size. number)) file to _ _ _ _ b.1 (refused_first (field (λ size. (size < 2 ^ 64) × (c.in_ok-base.base + size < 2 ^ 63)) u64_bytes) (λ size. number) file to _ _ (refused_narrower (λ n. n < 2 ^ 64) (λ size. (size < 2 ^ 64) × (c.in_ok-base.base + size < 2 ^ 63)) u64_bytes (λ n f. f.0) file to _ _ s.1))),
    )

pub returns-then-ends_high-clause-takes : goal.returns-then-ends_high-clause-takes
returns-then-ends_high-clause-takes g c = λ file to can.
    let b = c.in_ok-base.ensures.gives file to can in
    let s = c.in_ok-length.ensures.gives file to b.0 in (
      s.0,
      refused_second number (λ base. behind (field (λ size. (size < 2 ^ 64) × (base + size < 2 ^ 63)) u64_bytes) (λ size. number)) file to _ _ _ _ b.1 (refused_first (field (λ size. (size < 2 ^ 64) × (c.in_ok-base.base + size < 2 ^ 63)) u64_bytes) (λ size. number) file to _ _
          (refused_here (field (λ size. (size < 2 ^ 64) × (c.in_ok-base.base + size < 2 ^ 63)) u64_bytes) file to _ c.place-place.result c.damaged.result c.damaged.ensures c.place-place.ensures (misfit (λ n. n < 2 ^ 64) (λ size. (size < 2 ^ 64) × (c.in_ok-base.base + size < 2 ^ 63)) u64_bytes number_law (λ n f. f.0) file to _ _ _ s.1 (λ f. omega (arith, c.if-ends_high.ensures, f.1))))),
    )

pub returns-in_err-last-clause-takes : goal.returns-in_err-last-clause-takes
returns-in_err-last-clause-takes g c = λ file to can.
    let b = c.in_ok-base.ensures.gives file to can in
    let s = c.in_ok-length.ensures.gives file to b.0 in
    let l = c.in_err-last.ensures.gives file to s.0 in (
      l.0,
      handed c.from_residual-in_err-last.result c.in_err-last.field-0.0 _ _ c.from_residual-in_err-last.ensures.1
          (refused_second number (λ base. behind (field (λ size. (size < 2 ^ 64) × (base + size < 2 ^ 63)) u64_bytes) (λ size. number)) file to _ _ _ _ b.1 (refused_second (field (λ size. (size < 2 ^ 64) × (c.in_ok-base.base + size < 2 ^ 63)) u64_bytes) (λ size. number) file to _ _ _ _ (narrowed (λ n. n < 2 ^ 64) (λ size. (size < 2 ^ 64) × (c.in_ok-base.base + size < 2 ^ 63)) u64_bytes file to _ _ _ s.1 (s.1.fits, c.if-ends_high.ensures)) l.1)),
    )

pub returns-clause-takes : goal.returns-clause-takes
returns-clause-takes g c = λ file to can.
    let b = c.in_ok-base.ensures.gives file to can in
    let s = c.in_ok-length.ensures.gives file to b.0 in
    let l = c.in_ok-last.ensures.gives file to s.0 in
    (l.0, read_both number (λ base. behind (field (λ size. (size < 2 ^ 64) × (base + size < 2 ^ 63)) u64_bytes) (λ size. number)) file to _ _ _ _ _ b.1 (read_both (field (λ size. (size < 2 ^ 64) × (c.in_ok-base.base + size < 2 ^ 63)) u64_bytes) (λ size. number) file to _ _ _ _ _ (narrowed (λ n. n < 2 ^ 64) (λ size. (size < 2 ^ 64) × (c.in_ok-base.base + size < 2 ^ 63)) u64_bytes file to _ _ _ s.1 (s.1.fits, c.if-ends_high.ensures)) l.1))
