use Rattle.std.proofs.Common.{◌||◌, sym, ap, ◌∙◌}
use Rattle.std.specs.List.{list_any}
use Rattle.memchr.specs.Find.{is_byte}
use Rattle.text_formats.proofs.Breaking.{breaks_either}
use Rattle.text_formats.proofs.fields.is_broken.Goals as goal

pub returns-then-has_mark : goal.returns-then-has_mark
returns-then-has_mark c =
    c.if-has_mark.true ∙ sym (breaks_either c.args.style c.args.field.now ∙ ap (λ t. t || list_any (is_byte 13) c.args.field.now) (sym c.has_mark.ensures ∙ c.if-has_mark.true))

pub returns-else-has_mark : goal.returns-else-has_mark
returns-else-has_mark c =
    c.has_return.ensures ∙ sym (breaks_either c.args.style c.args.field.now ∙ ap (λ t. t || list_any (is_byte 13) c.args.field.now) (sym c.has_mark.ensures ∙ c.if-has_mark.false))
