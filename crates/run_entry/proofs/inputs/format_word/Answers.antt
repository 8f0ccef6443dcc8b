use Rattle.std.proofs.Common.{◌∙◌}
use Rattle.run_entry.proofs.Telling.{named}
use Rattle.run_entry.proofs.inputs.format_word.Goals as goal

pub returns : goal.returns
returns c = c.as_str.ensures ∙ named c.args.format
