use Rattle.std.proofs.Common.{refl, sym, ◌∙◌}
use Rattle.list_run.proofs.Same.{put_known, put_same, put_unknown}
use Rattle.list_run.proofs.gathered.put_first.Goals as goal

pub returns-then-contains-clause-put : goal.returns-then-contains-clause-put
returns-then-contains-clause-put c = put_known c.args.seen.now.keys c.args.value.now (sym c.contains.ensures ∙ c.if-contains.true)

pub returns-then-contains-clause-known : goal.returns-then-contains-clause-known
returns-then-contains-clause-known c = λ there. (refl, refl)

pub returns-in_err-copy-clause-known : goal.returns-in_err-copy-clause-known
returns-in_err-copy-clause-known c = λ there. absurd (put_unknown c.args.seen.now.keys c.args.value.now (sym c.contains.ensures ∙ c.if-contains.false) there)

pub returns-in_err-insert-clause-known : goal.returns-in_err-insert-clause-known
returns-in_err-insert-clause-known c = λ there. absurd (put_unknown c.args.seen.now.keys c.args.value.now (sym c.contains.ensures ∙ c.if-contains.false) there)

pub returns-clause-put : goal.returns-clause-put
returns-clause-put c = c.in_ok-insert.ensures.keys ∙ put_same c.args.seen.now.keys c.args.value.now c.in_ok-copy.field-0 c.in_ok-copy.ensures

pub returns-clause-known : goal.returns-clause-known
returns-clause-known c = λ there. absurd (put_unknown c.args.seen.now.keys c.args.value.now (sym c.contains.ensures ∙ c.if-contains.false) there)
