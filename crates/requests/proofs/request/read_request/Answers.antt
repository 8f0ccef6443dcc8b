use Rattle.lp_model.proofs.Growing.{OnlyGrow-refl}
use Rattle.requests.proofs.request.read_request.Goals as goal

pub returns-in_err-spec-clause-grows : goal.returns-in_err-spec-clause-grows
returns-in_err-spec-clause-grows g c = OnlyGrow-refl _
