use Rattle.std.proofs.Common.{arith}
use Rattle.ledger.proofs.Composing.{handed, refused_first, refused_second, read_both}
use Rattle.ledger.proofs.Payloads.{payload_refused, payload_left, payload_read}
use Rattle.ledger_model.specs.Layouts.{behind}
use Rattle.ledger_model.specs.Grammar.{head_layout, texts_layout, kept_layout, ending_layout}
use Rattle.ledger.proofs.walking.check_payload.Goals as goal

pub returns-in_err-check_head-clause-looks : goal.returns-in_err-check_head-clause-looks
returns-in_err-check_head-clause-looks g c = λ file to can whole.
    let h = c.in_err-check_head.ensures.looks file to can in
    handed c.from_residual.result c.in_err-check_head.field-0.0 _ _ c.from_residual.ensures.1 (payload_refused file to _ _ (refused_first head_layout (λ head. behind texts_layout (λ texts. behind kept_layout (λ kept. ending_layout))) file to _ _ h.1))

pub returns-in_err-check_texts-clause-looks : goal.returns-in_err-check_texts-clause-looks
returns-in_err-check_texts-clause-looks g c = λ file to can whole.
    let h = c.in_ok-check_head.ensures.looks file to can in
    let t = c.in_err-check_texts.ensures.looks file to h.0 in
    handed c.from_residual-in_err-check_texts.result c.in_err-check_texts.field-0.0 _ _ c.from_residual-in_err-check_texts.ensures.1 (payload_refused file to _ _ (refused_second head_layout (λ head. behind texts_layout (λ texts. behind kept_layout (λ kept. ending_layout))) file to _ _ _ _ h.1.read (refused_first texts_layout (λ texts. behind kept_layout (λ kept. ending_layout)) file to _ _ t.1)))

pub returns-in_err-check_kept-clause-looks : goal.returns-in_err-check_kept-clause-looks
returns-in_err-check_kept-clause-looks g c = λ file to can whole.
    let h = c.in_ok-check_head.ensures.looks file to can in
    let t = c.in_ok-check_texts.ensures.looks file to h.0 in
    let k = c.in_err-check_kept.ensures.looks file to t.0 in
    handed c.from_residual-in_err-check_kept.result c.in_err-check_kept.field-0.0 _ _ c.from_residual-in_err-check_kept.ensures.1 (payload_refused file to _ _ (refused_second head_layout (λ head. behind texts_layout (λ texts. behind kept_layout (λ kept. ending_layout))) file to _ _ _ _ h.1.read (refused_second texts_layout (λ texts. behind kept_layout (λ kept. ending_layout)) file to _ _ _ _ t.1.read (refused_first kept_layout (λ kept. ending_layout) file to _ _ k.1))))

pub returns-in_err-check_ending-clause-looks : goal.returns-in_err-check_ending-clause-looks
returns-in_err-check_ending-clause-looks g c = λ file to can whole.
    let h = c.in_ok-check_head.ensures.looks file to can in
    let t = c.in_ok-check_texts.ensures.looks file to h.0 in
    let k = c.in_ok-check_kept.ensures.looks file to t.0 in
    let e = c.in_err-check_ending.ensures.looks file to k.0 in
    handed c.from_residual-in_err-check_ending.result c.in_err-check_ending.field-0.0 _ _ c.from_residual-in_err-check_ending.ensures.1 (payload_refused file to _ _ (refused_second head_layout (λ head. behind texts_layout (λ texts. behind kept_layout (λ kept. ending_layout))) file to _ _ _ _ h.1.read (refused_second texts_layout (λ texts. behind kept_layout (λ kept. ending_layout)) file to _ _ _ _ t.1.read (refused_second kept_layout (λ kept. ending_layout) file to _ _ _ _ k.1.read e.1))))

pub returns-then-place-end-clause-looks : goal.returns-then-place-end-clause-looks
returns-then-place-end-clause-looks g c = λ file to can whole.
    let h = c.in_ok-check_head.ensures.looks file to can in
    let t = c.in_ok-check_texts.ensures.looks file to h.0 in
    let k = c.in_ok-check_kept.ensures.looks file to t.0 in
    let e = c.in_ok-check_ending.ensures.looks file to k.0 in
    payload_left file to _ c.check_ending.new.reader.at _ c.damaged.result _ (read_both head_layout (λ head. behind texts_layout (λ texts. behind kept_layout (λ kept. ending_layout))) file to _ _ _ _ _ h.1.read (read_both texts_layout (λ texts. behind kept_layout (λ kept. ending_layout)) file to _ _ _ _ _ t.1.read (read_both kept_layout (λ kept. ending_layout) file to _ _ _ _ _ k.1.read e.1.read))) (omega (arith, c.place.ensures, c.end.ensures, c.if-place-end.true, e.0.end)) whole c.damaged.ensures c.place-then-place-end.ensures

pub returns-clause-looks : goal.returns-clause-looks
returns-clause-looks g c = λ file to can whole.
    let h = c.in_ok-check_head.ensures.looks file to can in
    let t = c.in_ok-check_texts.ensures.looks file to h.0 in
    let k = c.in_ok-check_kept.ensures.looks file to t.0 in
    let e = c.in_ok-check_ending.ensures.looks file to k.0 in
    payload_read file to _ c.check_ending.new.reader.at _ (read_both head_layout (λ head. behind texts_layout (λ texts. behind kept_layout (λ kept. ending_layout))) file to _ _ _ _ _ h.1.read (read_both texts_layout (λ texts. behind kept_layout (λ kept. ending_layout)) file to _ _ _ _ _ t.1.read (read_both kept_layout (λ kept. ending_layout) file to _ _ _ _ _ k.1.read e.1.read))) (omega (arith, c.place.ensures, c.end.ensures, c.if-place-end.false, e.0.end))
