use Rattle.text_functions.proofs.StandLemmas.{lacks_run, behind_first, cut_behind}
use Rattle.text_functions.proofs.runs.behind_run.Goals as goal

pub split_at-requires : goal.split_at-requires
split_at-requires c =
    let stand = rw (c.as_bytes.ensures.value, c.as_bytes-2.ensures.value) at c.in-Some.ensures in
    cut_behind c.args.run.now c.args.text.now c.in-Some.place c.utf8.text c.utf8.run c.requires stand.here

pub returns-in-Some : goal.returns-in-Some
returns-in-Some c =
    let stand = rw (c.as_bytes.ensures.value, c.as_bytes-2.ensures.value) at c.in-Some.ensures in
    behind_first c.args.run.now c.args.text.now c.split_at.result.1.now c.in-Some.place stand c.split_at.ensures.back

pub returns-in-None : goal.returns-in-None
returns-in-None c =
    let none = rw (c.as_bytes.ensures.value, c.as_bytes-2.ensures.value) at c.in-None.ensures in
    lacks_run c.args.run.now c.args.text.now none
