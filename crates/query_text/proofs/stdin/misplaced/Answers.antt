use Rattle.query_text.proofs.Placing.{misplaced_first, misplaced_next}
use Rattle.query_text.proofs.stdin.misplaced.Goals as goal

pub returns-in-Some : goal.returns-in-Some
returns-in-Some c = misplaced_first c.args.query.now c.in-Some.at c.in-Some.ensures

pub returns-in-None : goal.returns-in-None
returns-in-None c = misplaced_next c.args.query.now c.stdin_within.result c.in-None.ensures c.stdin_within.ensures
