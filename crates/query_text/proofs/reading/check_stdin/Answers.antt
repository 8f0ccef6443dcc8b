use Rattle.std.proofs.Common.{refl, sym}
use Rattle.query_text.proofs.reading.check_stdin.Goals as goal

pub returns-in-None-clause-placed : goal.returns-in-None-clause-placed
returns-in-None-clause-placed c = sym c.in-None.ensures

pub returns-in-Some-clause-fault : goal.returns-in-Some-clause-fault
returns-in-Some-clause-fault c = record { at = c.in-Some.at; given_is = refl; place = sym c.in-Some.ensures }
