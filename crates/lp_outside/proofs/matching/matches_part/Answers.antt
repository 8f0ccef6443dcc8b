use Rattle.std.proofs.lemmas.Bool.{true≢false}
use Rattle.std.proofs.Common.{sym}
use Rattle.lp_outside.proofs.matching.matches_part.Goals as goal

pub returns-in-Nowhere : goal.returns-in-Nowhere
returns-in-Nowhere c = (λ h. absurd (true≢false (sym h)), λ m. absurd (c.in-Nowhere.ensures 0 m))
