use Rattle.std.proofs.Common.{◌++◌, sym, ap, ◌∙◌}
use Rattle.text_formats.proofs.Breaking.{kept_whole}
use Rattle.text_formats.proofs.fields.add_whole.Goals as goal

pub returns-in_ok-add-clause-ok : goal.returns-in_ok-add-clause-ok
returns-in_ok-add-clause-ok c =
    c.in_ok-add.ensures.ok ∙ ap (λ t. c.args.to.now ++ t) (sym (kept_whole c.args.style c.args.field.now (sym c.is_broken.ensures ∙ c.if-is_broken.false)))
