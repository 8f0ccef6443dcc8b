use Rattle.std.proofs.Common.{sym}
use Rattle.std.proofs.lemmas.Bool.{false≢true}
use Rattle.requests.proofs.Naming.{no_file}
use Rattle.requests.proofs.text.file_in.Goals as goal

pub returns-in_err-head : goal.returns-in_err-head
returns-in_err-head c = rw c.from_residual.ensures (sym (no_file c.args.word.now c.utf8.word (λ ends. false≢true (c.in_err-head.ensures.variant.1 ends))))
