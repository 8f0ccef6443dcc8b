use Rattle.std.proofs.Common.{◌^◌}
use Rattle.ledger.proofs.Composing.{handed}
use Rattle.ledger.proofs.Counting.{counted_unsized, checks_counted}
use Rattle.ledger_model.specs.Numbers.{u64_bytes}
use Rattle.ledger.specs.Counted.{kept_field}
use Rattle.ledger.proofs.checking.list.Goals as goal

pub returns-in_err-count-clause-looks : goal.returns-in_err-count-clause-looks
returns-in_err-count-clause-looks g c = λ file to can.
    let k = c.in_err-count.ensures.gives file to can in
    (k.0, handed c.from_residual.result c.in_err-count.field-0.0 _ _ c.from_residual.ensures.1 (counted_unsized u64_bytes (2 ^ 64) (λ before. kept_field) file to _ _ k.1))

pub returns-clause-looks : goal.returns-clause-looks
returns-clause-looks g c = λ file to can.
    let k = c.in_ok-count.ensures.gives file to can in
    let t = c.value_items.ensures.looks file to k.0 in
    (t.0, checks_counted u64_bytes (2 ^ 64) (λ before. kept_field) file to _ _ _ _ k.1 c.value_items.result t.1)
