use Rattle.std.proofs.Common.{◌+◌, ◌++◌, [], ◌∷◌, nat_eq, get_or, replicate, if◌then◌else◌, ap, ◌∙◌, refl, append_assoc, arith}
use Rattle.lp_model.proofs.Results.{on_err}
use Rattle.lp_model.proofs.Buffers.{grows_along}
use Rattle.text_formats.specs.Tables.{ruled, pieces_from}
use Rattle.text_formats.proofs.Piecing.{pieced_next, pieced_all, pieced_stopped, pieced_within}
use Rattle.text_formats.proofs.table.add_rule.Goals as goal

pub loop-column-preserved : goal.loop-column-preserved
loop-column-preserved c =
    let title = c.args.title.now in
    let i = c.loop-column.column in
    let last = nat_eq (i + 1) c.len-count.result in
    let ends = ap (nat_eq (i + 1)) c.len-count.ensures in
    let piece = c.in_ok-add_dashes.ensures.ok ∙ ap (λ w. c.loop-column.to ++ (replicate w 45 ++ (if last then [] else 32 ∷ []))) c.noted_width-width.ensures in
    pieced_next (ruled (title ∷ c.args.rows.now)) title i (get_or title i []) [] last c.args.to.now c.loop-column.to c.add_dashes.new.to (omega (arith, c.len-count.ensures)) refl ends c.loop-column.invariant piece

pub returns-in_err-add_dashes-clause-err : goal.returns-in_err-add_dashes-clause-err
returns-in_err-add_dashes-clause-err c =
    let title = c.args.title.now in
    let i = c.loop-column.column in
    let last = nat_eq (i + 1) c.len-count.result in
    let ends = ap (nat_eq (i + 1)) c.len-count.ensures in
    let piece = grows_along _ _ _ _ (ap (λ w. replicate w 45 ++ (if last then [] else 32 ∷ [])) c.noted_width-width.ensures) c.in_err-add_dashes.ensures.err in
    on_err _ c.from_residual.result
    (pieced_within (ruled (title ∷ c.args.rows.now)) title i (get_or title i []) [] last c.args.to.now c.loop-column.to c.add_dashes.new.to (10 ∷ []) (omega (arith, c.len-count.ensures)) refl ends c.loop-column.invariant piece)

pub returns-in_err-push-clause-err : goal.returns-in_err-push-clause-err
returns-in_err-push-clause-err c =
    on_err _ c.from_residual-in_err-push.result
    (pieced_stopped (ruled (c.args.title.now ∷ c.args.rows.now)) c.args.title.now c.loop-column.column c.args.to.now c.loop-column.to c.push.new.self (10 ∷ []) c.loop-column.invariant c.in_err-push.ensures.err)

pub returns-clause-ok : goal.returns-clause-ok
returns-clause-ok c =
    let table = c.args.title.now ∷ c.args.rows.now in
    let title = c.args.title.now in
    let all = pieced_all (ruled table) title c.loop-column.column c.args.to.now c.loop-column.to (omega (arith, c.len-count.ensures)) c.loop-column.invariant in
    c.in_ok-push.ensures.ok ∙ (ap (λ t. t ++ 10 ∷ []) all ∙ append_assoc c.args.to.now (pieces_from (ruled table) 0 title) (10 ∷ []))
