use Rattle.text_functions.proofs.StandLemmas.{ends_with}
use Rattle.text_functions.proofs.runs.ends_with_run.Goals as goal

pub returns : goal.returns
returns c =
    let ends = ends_with c.args.run.now c.args.text.now c.if-text-run.false in
    let stands = rw (c.as_bytes.ensures.value, c.as_bytes-2.ensures.value) at c.stands_at.ensures in
    (λ is. ends.0 (stands.0 is), λ is. stands.1 (ends.1 is))
