use Rattle.ledger_model.specs.Layouts.{behind}
use Rattle.ledger_model.specs.Grammar.{texts_layout, kept_layout}
use Rattle.ledger.specs.Outputs.{loose_head}
use Rattle.ledger.proofs.Composing.{handed, refused_first, refused_second, checks_behind}
use Rattle.ledger.proofs.outputs.skip_front.Goals as goal

pub returns-in_err-skip_head-clause-looks : goal.returns-in_err-skip_head-clause-looks
returns-in_err-skip_head-clause-looks g c = λ file to can.
    let k = c.in_err-skip_head.ensures.looks file to can in
    (k.0, handed c.from_residual.result c.in_err-skip_head.field-0.0 _ _ c.from_residual.ensures.1 (refused_first loose_head (λ head. behind texts_layout (λ texts. kept_layout)) file to _ _ k.1))

pub returns-in_err-check_texts-clause-looks : goal.returns-in_err-check_texts-clause-looks
returns-in_err-check_texts-clause-looks g c = λ file to can.
    let k = c.in_ok-skip_head.ensures.looks file to can in
    let t = c.in_err-check_texts.ensures.looks file to k.0 in
    (t.0, handed c.from_residual-in_err-check_texts.result c.in_err-check_texts.field-0.0 _ _ c.from_residual-in_err-check_texts.ensures.1 (refused_second loose_head (λ head. behind texts_layout (λ texts. kept_layout)) file to _ _ k.1.value _ k.1.read (refused_first texts_layout (λ texts. kept_layout) file to _ _ t.1)))

pub returns-clause-looks : goal.returns-clause-looks
returns-clause-looks g c = λ file to can.
    let k = c.in_ok-skip_head.ensures.looks file to can in
    let t = c.in_ok-check_texts.ensures.looks file to k.0 in
    let l = c.check_kept.ensures.looks file to t.0 in
    (l.0, checks_behind loose_head (λ head. behind texts_layout (λ texts. kept_layout)) file to _ _ _ k.1.value k.1.read c.check_kept.result (checks_behind texts_layout (λ texts. kept_layout) file to _ _ _ t.1.value t.1.read c.check_kept.result l.1))
