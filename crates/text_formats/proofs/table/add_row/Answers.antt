use Rattle.std.proofs.Common.{◌+◌, ◌++◌, [], ◌∷◌, nat_eq, get_or, ap, ◌∙◌, refl, append_assoc, arith}
use Rattle.lp_model.proofs.Results.{on_err}
use Rattle.text_formats.specs.Tables.{filled, pieces_from}
use Rattle.text_formats.proofs.Piecing.{pieced_next, pieced_all, pieced_stopped, pieced_within}
use Rattle.text_formats.proofs.table.add_row.Goals as goal

pub loop-column-preserved : goal.loop-column-preserved
loop-column-preserved c =
    let row = c.args.row.now in
    let i = c.loop-column.column in
    let ends = ap (nat_eq (i + 1)) c.len-count.ensures in
    pieced_next (filled (c.args.title.now ∷ c.args.rows.now)) row i (get_or row i []) [] (nat_eq (i + 1) c.len-count.result) c.args.to.now c.loop-column.to c.add_entry.new.to (omega (arith, c.len-count.ensures)) refl ends
    c.loop-column.invariant c.in_ok-add_entry.ensures.ok

pub returns-in_err-add_entry-clause-err : goal.returns-in_err-add_entry-clause-err
returns-in_err-add_entry-clause-err c =
    let row = c.args.row.now in
    let i = c.loop-column.column in
    let ends = ap (nat_eq (i + 1)) c.len-count.ensures in
    on_err _ c.from_residual.result
    (pieced_within (filled (c.args.title.now ∷ c.args.rows.now)) row i (get_or row i []) [] (nat_eq (i + 1) c.len-count.result) c.args.to.now c.loop-column.to c.add_entry.new.to (10 ∷ []) (omega (arith, c.len-count.ensures)) refl ends
    c.loop-column.invariant c.in_err-add_entry.ensures.err)

pub returns-in_err-push-clause-err : goal.returns-in_err-push-clause-err
returns-in_err-push-clause-err c =
    on_err _ c.from_residual-in_err-push.result
    (pieced_stopped (filled (c.args.title.now ∷ c.args.rows.now)) c.args.row.now c.loop-column.column c.args.to.now c.loop-column.to c.push.new.self (10 ∷ []) c.loop-column.invariant c.in_err-push.ensures.err)

pub returns-clause-ok : goal.returns-clause-ok
returns-clause-ok c =
    let table = c.args.title.now ∷ c.args.rows.now in
    let row = c.args.row.now in
    let all = pieced_all (filled table) row c.loop-column.column c.args.to.now c.loop-column.to (omega (arith, c.len-count.ensures)) c.loop-column.invariant in
    c.in_ok-push.ensures.ok ∙ (ap (λ t. t ++ 10 ∷ []) all ∙ append_assoc c.args.to.now (pieces_from (filled table) 0 row) (10 ∷ []))
