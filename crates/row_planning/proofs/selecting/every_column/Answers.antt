use Rattle.std.proofs.Common.{◌∙◌, ◌+◌, ◌++◌, ◌∷◌, [], drop, ap, sym, arith}
use Rattle.query_types.specs.Planned.{columns_from}
use Rattle.query_types.proofs.Steps.{columns_step}
use Rattle.row_planning.proofs.selecting.every_column.Goals as goal

pub loop-index-preserved : goal.loop-index-preserved
loop-index-preserved c =
    let columns = c.args.table.now.columns in
    let i = c.loop-index.index in
    c.loop-index.invariant ∙ columns_step columns i c.loop-index.meanings (omega (arith, c.len-index-end.ensures))
    ∙ ap (λ m. (c.loop-index.meanings ++ m ∷ []) ++ columns_from (i + 1) (drop (i + 1) columns)) (sym c.column.ensures)
    ∙ ap (λ front. front ++ columns_from (i + 1) (drop (i + 1) columns)) (sym c.in_ok-push.ensures.ok)
