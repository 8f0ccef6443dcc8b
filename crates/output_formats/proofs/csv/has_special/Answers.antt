use Rattle.std.proofs.Common.{◌||◌, sym, ap, ◌∙◌}
use Rattle.std.specs.List.{list_any}
use Rattle.byte_masks.specs.Places.{is_in}
use Rattle.output_formats.proofs.Quoting.{special_either, line_ends}
use Rattle.output_formats.proofs.csv.has_special.Goals as goal

pub returns-then-has_one : goal.returns-then-has_one
returns-then-has_one c =
    c.if-has_one.true ∙ sym (special_either c.args.field.now ∙ ap (λ t. t || list_any (is_in line_ends) c.args.field.now) (sym c.has_one.ensures ∙ c.if-has_one.true))

pub returns-else-has_one : goal.returns-else-has_one
returns-else-has_one c =
    c.has_one-else-has_one.ensures ∙ sym (special_either c.args.field.now ∙ ap (λ t. t || list_any (is_in line_ends) c.args.field.now) (sym c.has_one.ensures ∙ c.if-has_one.false))
