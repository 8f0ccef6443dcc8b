use Rattle.std.proofs.Common.{◌+◌, ◌<◌, ◌^◌, ℕ, List, ap, subst, sym, refl, ◌∙◌}
use Rattle.lp_values.specs.declared.value.Value.{Value}
use Rattle.group_rollup.specs.contracts.table.Groups.{the_view}
use Rattle.group_rollup.specs.Columns.{changes_by}
use Rattle.group_rollup.specs.Tables.{Table, Holds, IsAdded, AreSmall}
use Rattle.group_rollup.proofs.TableLemmas.{holds_more, have_added}
use Rattle.group_rollup.proofs.table.Groups.add.Goals as goal

pub invariant_of-self-2 : goal.invariant_of-self-2
invariant_of-self-2 c =
    let have = have_added _ _ _ _ _ _ c.self.invariant.0 c.in_ok-add.ensures.ok in
    (have.0, have.1 ∙ c.self.invariant.1, subst (λ (t : Table). t.records + 1 < 2 ^ 63) (sym c.self.view_is) c.requires.few)

pub returns-clause-ok : goal.returns-clause-ok
returns-clause-ok c = λ width kinds rollup records h.
    let old = the_view c.self.inside in
    let new = the_view (record { width = c.self.inside.width; kinds = c.self.inside.kinds; rollup = c.self.inside.rollup; rows = c.add.new.self; records = c.self.inside.records + 1 }) in
    let h' = subst (λ (t : Table). Holds width kinds rollup t records) (sym c.self.view_is) h in
    let added = subst (λ (vs : List Value). IsAdded old.keys old.columns c.args.keys.now (λ (i : ℕ). changes_by old.columns i vs) new.keys new.columns) c.as_slice-2.ensures c.in_ok-add.ensures.ok in
    holds_more width kinds rollup records c.args.keys.now c.args.arguments.now old new h' (c.requires.keys ∙ ap (λ (t : Table). t.width) (sym c.self.view_is)) (subst AreSmall c.as_slice.ensures c.are_small.ensures) (subst (λ (t : Table). t.records + 1 < 2 ^ 63) (sym c.self.view_is) c.requires.few) added refl refl refl refl
