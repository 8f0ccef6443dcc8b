use Rattle.std.proofs.Common.{◌∙◌, ◌+◌, ◌∷◌, ◌++◌, drop, ap, sym, arith, option_map}
use Rattle.query_types.specs.Conditions.{filter_of}
use Rattle.query_types.specs.Planned.{used_from}
use Rattle.query_types.proofs.Steps.{used_step}
use Rattle.query_types.proofs.using_columns.used_columns.Goals as goal

pub loop-index-preserved : goal.loop-index-preserved
loop-index-preserved c =
    let columns = c.args.table.now.columns in
    let i = c.loop-index.index in
    let aliased = c.args.aliased.now in
    let items = c.args.items.now in
    let filter = option_map filter_of c.args.condition.now in
    c.loop-index.invariant
    ∙ used_step columns i c.loop-index.used aliased items filter c.is_used.result (omega (arith, c.len-index-end.ensures)) (λ x rest. ap (λ u. u ∷ used_from (i + 1) rest aliased items filter) (sym c.is_used.ensures))
    ∙ ap (λ front. front ++ used_from (i + 1) (drop (i + 1) columns) aliased items filter) (sym c.in_ok-push.ensures.ok)
