use Rattle.std.proofs.Common.{◌++◌, [], length, flat_map, ap, sym, ◌∙◌}
use Rattle.std.proofs.lemmas.Result.{on_ok_weaker, on_err_weaker}
use Rattle.lp_model.proofs.Buffers.{grows_later, grows_along}
use Rattle.ledger_model.specs.Numbers.{u16_bytes, text_bytes}
use Rattle.line_input.proofs.Added.{both_added, names_flat, low_half}
use Rattle.line_input.proofs.standing_bytes.add_columns.Goals as goal

pub returns-clause-ok : goal.returns-clause-ok
unfolding u16_bytes
returns-clause-ok c =
    let names = c.args.columns.now in
    let size = c.in_ok-add.ensures.ok ∙ ap (λ t. c.args.to.now ++ t) (c.to_le_bytes.ensures ∙ low_half (length names)) in
    on_ok_weaker c.add_names.result
    (λ e. both_added c.args.to.now c.add.new.self c.add_names.new.to (u16_bytes (length names)) (flat_map text_bytes names) size e ∙ ap (λ t. c.args.to.now ++ (u16_bytes (length names) ++ t)) (sym (names_flat [] names)))
    c.add_names.ensures.ok

pub returns-clause-err : goal.returns-clause-err
unfolding u16_bytes
returns-clause-err c =
    let names = c.args.columns.now in
    let size = c.in_ok-add.ensures.ok ∙ ap (λ t. c.args.to.now ++ t) (c.to_le_bytes.ensures ∙ low_half (length names)) in
    on_err_weaker c.add_names.result
    (λ e. grows_along c.args.to.now c.add_names.new.to _ _ (ap (λ t. u16_bytes (length names) ++ t) (sym (names_flat [] names))) (grows_later c.args.to.now c.add.new.self c.add_names.new.to (u16_bytes (length names)) (flat_map text_bytes names) size e))
    c.add_names.ensures.err
