use Rattle.std.proofs.Common.{subst, sym, ◌∙◌}
use Rattle.group_rollup.specs.contracts.table.Groups.{the_view}
use Rattle.group_rollup.specs.Tables.{Table, Holds}
use Rattle.group_rollup.proofs.HandingLemmas.{full_rows, plain_rows, rolled_rows, stands_at}
use Rattle.group_rollup.proofs.table.Groups.rows.Goals as goal

pub returns-then-not-self : goal.returns-then-not-self
returns-then-not-self c = λ width kinds rollup records h.
    let table = the_view c.self.inside in
    let h' = subst (λ (t : Table). Holds width kinds rollup t records) (sym c.self.view_is) h in
    let full = full_rows width kinds rollup records table c.deref.result.now c.new-rows.result c.hand_out_level.new.rows h' c.self.invariant.2 c.deref.ensures.value c.new-rows.ensures c.in_ok-hand_out_level.ensures in
    plain_rows width kinds rollup records c.hand_out_level.new.rows (sym h'.rolls ∙ c.if-not-self.true) full

pub returns : goal.returns
returns c = λ width kinds rollup records h.
    let table = the_view c.self.inside in
    let h' = subst (λ (t : Table). Holds width kinds rollup t records) (sym c.self.view_is) h in
    let full = full_rows width kinds rollup records table c.deref.result.now c.new-rows.result c.hand_out_level.new.rows h' c.self.invariant.2 c.deref.ensures.value c.new-rows.ensures c.in_ok-hand_out_level.ensures in
    rolled_rows width kinds rollup records table c.deref-2.result.now c.hand_out_level.new.rows c.roll_up.new.rows h' c.deref-2.ensures.value (sym h'.rolls ∙ c.if-not-self.false) full
    (c.in_ok-roll_up.ensures records (stands_at width kinds rollup records table c.deref-2.result.now h' c.self.invariant.2 c.deref-2.ensures.value))
