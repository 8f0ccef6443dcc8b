use Rattle.query_parser.proofs.Parsing.{all_read, all_only, some_only, some_left, stop_only, stop_fault}
use Rattle.query_parser.proofs.whole.parse.Goals as goal

pub returns-then-count-eq0-clause-derives : goal.returns-then-count-eq0-clause-derives
returns-then-count-eq0-clause-derives c = all_read _ _ _ _ c.read-answer.ensures.exact c.in-Ok.is c.if-count-eq0.true

pub returns-then-count-eq0-clause-only : goal.returns-then-count-eq0-clause-only
returns-then-count-eq0-clause-only c = λ v so. all_only _ _ _ _ v c.read-answer.ensures.exact c.in-Ok.is c.if-count-eq0.true so

pub returns-else-count-eq0-clause-only : goal.returns-else-count-eq0-clause-only
returns-else-count-eq0-clause-only c = λ v so. some_only _ _ _ _ v c.read-answer.ensures.exact c.in-Ok.is c.if-count-eq0.false so

pub returns-else-count-eq0-clause-fault : goal.returns-else-count-eq0-clause-fault
returns-else-count-eq0-clause-fault c = some_left _ _ _ _ _ _ c.read-answer.ensures.exact c.in-Ok.is c.if-count-eq0.false c.place.ensures

pub returns-in-Err-clause-only : goal.returns-in-Err-clause-only
returns-in-Err-clause-only c = λ v so. stop_only _ _ _ _ c.in-Err.stop c.fault_of.result v c.read-answer.ensures.exact c.in-Err.is c.fault_of.ensures so

pub returns-in-Err-clause-fault : goal.returns-in-Err-clause-fault
returns-in-Err-clause-fault c = stop_fault _ _ _ _ c.in-Err.stop c.fault_of.result c.read-answer.ensures.exact c.in-Err.is c.fault_of.ensures
