use Rattle.std.proofs.Common.{◌++◌, ◌∷◌, [], flat_map, sym}
use Rattle.lp_model.specs.Csv.{doubled}
use Rattle.lp_model.proofs.Results.{on_err}
use Rattle.lp_model.proofs.Buffers.{grows_none, grows_front, grows_later, grows_along}
use Rattle.output_formats.proofs.csv.add_doubled.Goals as goal

pub returns-in_err-push-clause-err : goal.returns-in_err-push-clause-err
returns-in_err-push-clause-err c =
    let so_far = c.quotes.invariant in
    let through = c.in-Some.through.now in
    let behind = flat_map doubled c.in-Some.behind.now in
    let new = c.push.new.self in
    on_err _ c.from_residual-in_err-push.result
    (grows_along _ new _ _ (sym so_far.whole)
    (grows_later _ c.quotes.to new so_far.done (flat_map doubled c.quotes.rest.now) so_far.added
    (grows_along _ new _ _ (sym c.in-Some.ensures.parts)
    (grows_front c.quotes.to new (through ++ 34 ∷ []) behind
    (grows_later c.quotes.to c.add.new.self new through (34 ∷ []) c.in_ok-add.ensures.ok (grows_none c.add.new.self new (34 ∷ []) c.in_err-push.ensures.err))))))
