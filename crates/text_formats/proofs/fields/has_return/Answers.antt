use Rattle.std.proofs.Common.{◌∙◌}
use Rattle.memchr.specs.Find.{is_byte}
use Rattle.text_formats.proofs.Searching.{any_from_first}
use Rattle.text_formats.proofs.fields.has_return.Goals as goal

pub returns : goal.returns
returns c = c.is_some.ensures ∙ any_from_first (is_byte 13) c.args.field.now c.memchr.result c.memchr.ensures
