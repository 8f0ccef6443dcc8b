use Rattle.std.proofs.Common.{sym}
use Rattle.query_text.proofs.Refusing.{parse_refuses}
use Rattle.query_text.proofs.reading.read_tree.Goals as goal

pub returns-in-Ok-clause-query : goal.returns-in-Ok-clause-query
returns-in-Ok-clause-query c = record { derives = c.in-Ok.ensures.derives; only = λ other o. sym (c.in-Ok.ensures.only other o) }

pub returns-in-Err-clause-fault : goal.returns-in-Err-clause-fault
returns-in-Err-clause-fault c = record {
  inner = c.in-Err.fault;
  given_is = c.of_parse.ensures;
  fault = c.in-Err.ensures.fault;
  none = λ ne q d. parse_refuses c.in-Err.fault q ne (c.in-Err.ensures.only q d);
}
