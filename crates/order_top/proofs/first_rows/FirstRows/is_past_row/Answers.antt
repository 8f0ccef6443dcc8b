use Rattle.std.proofs.Common.{arith, ap, not, ◌∙◌, List, ℕ}
use Rattle.std.specs.Ordering.{is_lt}
use Rattle.order_top.specs.Finish.{keys_at, key_order}
use Rattle.order_top.proofs.FirstRowsLemmas.{past_row_told}
use Rattle.order_top.proofs.first_rows.FirstRows.is_past_row.Goals as goal

pub returns-in-Some : goal.returns-in-Some
returns-in-Some c =
    let told = c.is_lt.ensures ∙ ap is_lt (c.compare_rows.ensures ∙ ap (λ (columns : List ℕ). key_order c.self.inside.descending (keys_at columns c.args.row.now) (keys_at columns c.in-Some.last.now)) c.as_slice.ensures.value) in
    ap not told ∙ past_row_told _ _ _ c.self.inside.places c.self.inside.rows.entries c.args.self.now c.self.view_is c.self.invariant.0 c.args.row.now (c.in-Some.field-0-0.now, c.in-Some.last.now) (omega (arith, c.if-len-self.false, c.len.ensures.len)) c.in-Some.ensures.last
