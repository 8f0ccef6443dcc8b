use Rattle.row_output.proofs.SinkCalls.{same_text}
use Rattle.row_output.proofs.sink.Standard.new.Goals as goal

pub returns-clause-format : goal.returns-clause-format
returns-clause-format c = same_text c.in_ok-text.text.shape c.args.format c.in_ok-text.ensures.format c.in_ok-text.ensures.at_once
