use Rattle.std.proofs.Common.{◌^◌, ℕ, subst, arith}
use Rattle.ledger.specs.Reader.{Checks}
use Rattle.ledger.proofs.Composing.{handed}
use Rattle.ledger.proofs.Counting.{counted_unsized, checks_counted}
use Rattle.ledger_model.specs.Numbers.{u32_bytes}
use Rattle.ledger_model.specs.Layouts.{listed}
use Rattle.ledger_model.specs.Grammar.{list_layout}
use Rattle.ledger.proofs.checking.lists.Goals as goal

pub returns-in_err-count-clause-looks : goal.returns-in_err-count-clause-looks
returns-in_err-count-clause-looks g c = λ file to can.
    let k = c.in_err-count.ensures.gives file to can in
    (k.0, handed c.from_residual.result c.in_err-count.field-0.0 _ _ c.from_residual.ensures.1 (counted_unsized u32_bytes (2 ^ 32) (λ before. list_layout) file to _ _ k.1))

pub returns-clause-looks : goal.returns-clause-looks
returns-clause-looks g c = λ file to can.
    let k = c.in_ok-count.ensures.gives file to can in
    let t = c.list_items.ensures.looks file to k.0 in
    (t.0, checks_counted u32_bytes (2 ^ 32) (λ before. list_layout) file to _ _ _ _ k.1 c.list_items.result (subst (λ (n : ℕ). Checks (listed (λ before. list_layout) n) file to c.word.new.self.at c.list_items.new.reader.at c.list_items.result) (omega (arith, c.from.ensures)) t.1))
