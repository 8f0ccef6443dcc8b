use Rattle.std.proofs.Common.{◌++◌, length, ap, ◌∙◌}
use Rattle.std.proofs.lemmas.Result.{on_ok_weaker, on_err_weaker}
use Rattle.lp_model.proofs.Buffers.{grows_none, grows_later}
use Rattle.ledger_model.specs.Numbers.{u32_bytes}
use Rattle.line_input.proofs.Added.{both_added, low_word}
use Rattle.line_input.proofs.standing_bytes.add_text.Goals as goal

pub returns-clause-ok : goal.returns-clause-ok
unfolding u32_bytes
returns-clause-ok c =
    let size = c.in_ok-add.ensures.ok ∙ ap (λ t. c.args.to.now ++ t) (c.to_le_bytes.ensures ∙ low_word (length c.args.text.now)) in
    on_ok_weaker c.add-2.result (λ e. both_added c.args.to.now c.add.new.self c.add-2.new.self (u32_bytes (length c.args.text.now)) c.args.text.now size (e ∙ ap (λ t. c.add.new.self ++ t) c.as_bytes.ensures.value)) c.add-2.ensures.ok

pub returns-clause-err : goal.returns-clause-err
unfolding u32_bytes
returns-clause-err c =
    let size = c.in_ok-add.ensures.ok ∙ ap (λ t. c.args.to.now ++ t) (c.to_le_bytes.ensures ∙ low_word (length c.args.text.now)) in
    on_err_weaker c.add-2.result (λ e. grows_later c.args.to.now c.add.new.self c.add-2.new.self (u32_bytes (length c.args.text.now)) c.args.text.now size (grows_none c.add.new.self c.add-2.new.self c.args.text.now e)) c.add-2.ensures.err
