use Rattle.std.proofs.Common.{length}
use Rattle.tpl_output.proofs.reading.+content_in.Given as goal

abbrev pub decreases-content_in : goal.decreases-content_in
decreases-content_in l = length l.tags.now
