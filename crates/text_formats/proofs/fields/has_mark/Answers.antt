use Rattle.std.proofs.Common.{◌∙◌}
use Rattle.memchr.specs.Find.{is_byte3}
use Rattle.text_formats.proofs.Searching.{any_from_first}
use Rattle.text_formats.proofs.fields.has_mark.Goals as goal

pub returns : goal.returns
returns c = c.is_some.ensures ∙ any_from_first (is_byte3 c.args.style.separator c.args.style.blank 10) c.args.field.now c.memchr3.result c.memchr3.ensures
