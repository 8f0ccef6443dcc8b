use Rattle.ledger.proofs.Composing.{handed, refused_first, refused_second, checks_behind}
use Rattle.ledger_model.specs.Numbers.{text_of}
use Rattle.ledger_model.specs.Grammar.{text_field, words_layout}
use Rattle.ledger_model.specs.Layouts.{behind}
use Rattle.std.specs.Bool.{⊤}
use Rattle.ledger.proofs.checking.check_texts.Goals as goal

pub returns-in_err-words-clause-looks : goal.returns-in_err-words-clause-looks
returns-in_err-words-clause-looks g c = λ file to can.
    let k = c.in_err-words.ensures.looks file to can in
    (k.0, handed c.from_residual.result c.in_err-words.field-0.0 _ _ c.from_residual.ensures.1 (refused_first words_layout (λ words. behind text_field (λ query. text_of (λ template. ⊤))) file to _ _ k.1))

pub returns-in_err-text-clause-looks : goal.returns-in_err-text-clause-looks
returns-in_err-text-clause-looks g c = λ file to can.
    let k = c.in_ok-words.ensures.looks file to can in
    let t = c.in_err-text.ensures.looks file to k.0 in
    (t.0, handed c.from_residual-in_err-text.result c.in_err-text.field-0.0 _ _ c.from_residual-in_err-text.ensures.1 (refused_second words_layout (λ words. behind text_field (λ query. text_of (λ template. ⊤))) file to _ _ k.1.value _ k.1.read (refused_first text_field (λ query. text_of (λ template. ⊤)) file to _ _ t.1)))

pub returns-clause-looks : goal.returns-clause-looks
returns-clause-looks g c = λ file to can.
    let k = c.in_ok-words.ensures.looks file to can in
    let t = c.in_ok-text.ensures.looks file to k.0 in
    let l = c.text-2.ensures.looks file to t.0 in (
      l.0,
      checks_behind words_layout (λ words. behind text_field (λ query. text_of (λ template. ⊤))) file to _ _ _ k.1.value k.1.read c.text-2.result
          (checks_behind text_field (λ query. text_of (λ template. ⊤)) file to _ _ _ t.1.value t.1.read c.text-2.result l.1),
    )
