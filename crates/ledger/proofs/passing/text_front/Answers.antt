use Rattle.std.proofs.Common.{arith}
use Rattle.ledger.proofs.passing.text_front.Goals as goal

pub returns-in-Err-clause-longest : goal.returns-in-Err-clause-longest
returns-in-Err-clause-longest c = λ k more within is. c.in-Err.ensures.cases.1.longest k (omega (arith, more, c.valid_up_to.ensures)) (rw c.in-Utf8.is at is)
