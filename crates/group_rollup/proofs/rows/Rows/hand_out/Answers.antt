use Rattle.std.proofs.Common.{◌<◌, ◌∙◌, ap, sym, length, List, [], ◌∷◌, ◌++◌, drop, get_or, arith, ◌+◌}
use Rattle.std.proofs.lemmas.List.{append_assoc}
use Rattle.lp_values.specs.declared.group.GroupRow.{GroupRow}
use Rattle.group_rollup.specs.HandedOut.{rows_of}
use Rattle.group_rollup.proofs.FirstsLemmas.{get_some}
use Rattle.group_rollup.proofs.HandingLemmas.{rows_next}
use Rattle.group_rollup.proofs.rows.Rows.hand_out.Goals as goal

pub loop-index-preserved : goal.loop-index-preserved
loop-index-preserved c =
    let keys = c.args.self.now.keys.keys in
    let columns = c.args.self.now.columns.items in
    let i = c.loop-index.index in
    let low : i < length keys = omega (arith, c.len-index-end.ensures.len) in
    let rest : List GroupRow = rows_of c.args.dropped c.args.kinds.now c.args.all columns (drop (i + 1) keys) (i + 1) in
    let made = c.in_ok-row.ensures (get_or keys i []) (get_some keys i [] low) in
    c.loop-index.invariant
    ∙ (ap (λ (t : List GroupRow). c.loop-index.rows ++ t) (rows_next c.args.dropped c.args.kinds.now c.args.all columns keys i low)
    ∙ (sym (append_assoc c.loop-index.rows (_ ∷ []) rest)
    ∙ ap (λ (rs : List GroupRow). rs ++ rest) (ap (λ (r : GroupRow). c.loop-index.rows ++ r ∷ []) (sym made) ∙ sym c.in_ok-push.ensures.ok)))
