use Rattle.std.proofs.Common.{◌≡◌, ◌+◌, ◌++◌, [], ◌∷◌, max, take, ap, sym, ◌∙◌, arith}
use Rattle.std.proofs.lemmas.List.{take_more}
use Rattle.text_formats.specs.Tables.{width_at, width_in}
use Rattle.text_formats.proofs.Tabling.{width_in-push}
use Rattle.text_formats.proofs.table.column_width.Goals as goal

pub loop-row-init : goal.loop-row-init
unfolding width_in
loop-row-init c =
    let alone : width_at c.args.column c.args.title.now ≡ max (width_at c.args.column c.args.title.now) 0 = omega arith in
    c.width_at-width.ensures ∙ alone

pub loop-row-preserved : goal.loop-row-preserved
loop-row-preserved c =
    let title = c.args.title.now in
    let rows = c.args.rows.now in
    let i = c.loop-row.row-index in
    let row = c.row-item.result in
    let taken = take_more rows i row c.loop-row-test.true ∙ ap (λ r. take i rows ++ r ∷ []) (sym c.row-item.is) in
    let all : width_in (title ∷ take (i + 1) rows) c.args.column ≡ max (width_in (title ∷ take i rows) c.args.column) (width_at c.args.column row) =
    ap (λ t. width_in (title ∷ t) c.args.column) taken ∙ width_in-push (title ∷ take i rows) row c.args.column in
    c.wider-width.ensures ∙ (ap (λ w. max w c.width_at.result) c.loop-row.invariant ∙ (ap (max (width_in (title ∷ take i rows) c.args.column)) c.width_at.ensures ∙ sym all))
