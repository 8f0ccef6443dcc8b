use Rattle.ledger.proofs.Resting.{rests_then, rests_made}
use Rattle.ledger.proofs.walking.walk.Goals as goal

pub returns-in_err-check_mark-clause-rests : goal.returns-in_err-check_mark-clause-rests
returns-in_err-check_mark-clause-rests g c = rests_then _ _ _ (rests_made _ _ c.length.ensures.shows c.length.ensures.crash) c.check_mark.ensures.rests

pub returns-clause-rests : goal.returns-clause-rests
returns-clause-rests g c = rests_then _ _ _ (rests_made _ _ c.length.ensures.shows c.length.ensures.crash) (rests_then _ _ _ c.check_mark.ensures.rests c.walk_pairs.ensures.rests)
