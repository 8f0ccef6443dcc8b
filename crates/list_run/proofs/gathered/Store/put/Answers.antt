use Rattle.std.proofs.Common.{◌≡◌, true, sym, ◌∙◌, ap, subst}
use Rattle.std.specs.List.{list_any}
use Rattle.list_run.specs.Gathering.{list_in}
use Rattle.list_run.specs.Keeping.{same_value}
use Rattle.list_run.specs.declared.gathered.Store.{Store}
use Rattle.list_run.proofs.Same.{all_apart}
use Rattle.list_run.proofs.gathered.Store.put.Goals as goal

pub returns-in_err-copy-in-All-clause-known : goal.returns-in_err-copy-in-All-clause-known
returns-in_err-copy-in-All-clause-known c = λ keeps there. absurd (all_apart c.args.self.now c.in-All.list c.in-All.is keeps)

pub returns-in_err-push-in-All-clause-known : goal.returns-in_err-push-in-All-clause-known
returns-in_err-push-in-All-clause-known c = λ keeps there. absurd (all_apart c.args.self.now c.in-All.list c.in-All.is keeps)

pub returns-in_ok-push-in-All-clause-known : goal.returns-in_ok-push-in-All-clause-known
returns-in_ok-push-in-All-clause-known c = λ keeps there. absurd (all_apart c.args.self.now c.in-All.list c.in-All.is keeps)

pub returns-in-Distinct-clause-known : goal.returns-in-Distinct-clause-known
returns-in-Distinct-clause-known c = λ keeps there.
    let known = c.put_first.ensures.known (subst (λ (store : Store). list_any (same_value c.args.value.now) (list_in store) ≡ true) c.in-Distinct.is there) in
    (known.0, known.1 ∙ sym (ap list_in c.in-Distinct.is))
