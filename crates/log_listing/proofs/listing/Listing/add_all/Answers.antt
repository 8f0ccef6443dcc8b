use Rattle.std.proofs.Common.{Err, ap, sym, ◌∙◌}
use Rattle.std.proofs.lemmas.Result.{err_from_is_err_and}
use Rattle.log_listing.proofs.FirstNames.{too_many_at}
use Rattle.log_listing.proofs.listing.Listing.add_all.Goals as goal

pub returns-in_err-add-clause-many : goal.returns-in_err-add-clause-many
returns-in_err-add-clause-many c =
    let p = err_from_is_err_and c.from_residual.result c.from_residual.ensures.1 in
    let items = c.as_slice-name-items.ensures in
    λ is. rw (← items) (too_many_at c.args.self.now.names c.loop-name.self.names c.as_slice-name-items.result.now c.loop-name.name-index c.name-item.result
    c.loop-name.invariant.names c.loop-name-test.true c.name-item.is (c.in_err-add.ensures.many (sym (p.1 ∙ ap Err p.2) ∙ is)))
