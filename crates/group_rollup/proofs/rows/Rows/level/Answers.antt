use Rattle.std.proofs.Common.{◌≡◌, ◌≤◌, ℕ, ap, subst, sym, ◌∙◌, length, map, arith, List, slice_get, Some, take}
use Rattle.std.specs.Option.{option_copied}
use Rattle.std.proofs.lemmas.List.{length-map}
use Rattle.lp_values.specs.declared.value.Value.{Value}
use Rattle.group_rollup.specs.declared.column.AggregateColumn.{AggregateColumn}
use Rattle.group_rollup.specs.Columns.{AllHave, no_column, changes_from}
use Rattle.group_rollup.specs.Tables.{IsAdded}
use Rattle.group_rollup.proofs.ColumnLemmas.{none_have}
use Rattle.group_rollup.proofs.TableLemmas.{have_added, keeps_none}
use Rattle.group_rollup.proofs.RegroupLemmas.{level_more, level_done}
use Rattle.group_rollup.proofs.rows.Rows.level.Goals as goal

pub loop-index-init : goal.loop-index-init
loop-index-init c =
    let kinds = c.args.kinds.now in
    let none = c.in_ok-level.ensures.columns in
    record {
      have = subst (λ (columns : List AggregateColumn). AllHave (length c.in_ok-level.level.keys.keys) columns) (sym none) (subst (λ (n : ℕ). AllHave n (map no_column kinds)) (sym (ap length c.in_ok-level.ensures.keys)) (none_have kinds));
      as_many = ap length none ∙ length-map kinds no_column;
      keeps = λ width all records h stands. keeps_none c.args.count kinds c.in_ok-level.level.keys.keys c.in_ok-level.level.columns.items c.in_ok-level.ensures.keys none;
    }

pub loop-index-preserved : goal.loop-index-preserved
loop-index-preserved c =
    let have = have_added _ _ _ _ _ _ c.loop-index.invariant.have c.in_ok-absorb.ensures.ok in
    record {
      have = have.0;
      as_many = have.1 ∙ c.loop-index.invariant.as_many;
      keeps = λ width all records h stands.
          let keys = c.args.self.now.keys.keys in
          let columns = c.args.self.now.columns.items in
          let i = c.loop-index.index in
          let key = c.unwrap-keys.result.now in
          let level_keys = c.loop-index.level.keys.keys in
          let level_columns = c.loop-index.level.columns.items in
          let more_keys = c.absorb.new.self.keys.keys in
          let more_columns = c.absorb.new.self.columns.items in
          let at : slice_get keys i ≡ Some key = sym c.get_index.ensures.key ∙ ap option_copied c.unwrap-keys.ensures in
          let added = subst (λ (cs : List AggregateColumn). IsAdded level_keys level_columns (take c.args.count key) (λ (j : ℕ). changes_from level_columns j cs i) more_keys more_columns) c.deref.ensures.value
          (subst (λ (k : List Value). IsAdded level_keys level_columns k (λ (j : ℕ). changes_from level_columns j c.deref.result.now i) more_keys more_columns) (c.in_ok-prefix.ensures ∙ c.front.ensures) c.in_ok-absorb.ensures.ok) in
          level_more c.args.count width c.args.kinds.now keys columns all records level_keys level_columns more_keys more_columns i key h stands at (c.loop-index.invariant.keeps width all records h stands) added;
    }

pub returns-clause-keeps : goal.returns-clause-keeps
returns-clause-keeps c = λ width all records h stands.
    let low : length c.args.self.now.keys.keys ≤ c.loop-index.index = omega (arith, c.len-index-end.ensures.len) in
    level_done c.args.count width c.args.kinds.now c.args.self.now.keys.keys c.args.self.now.columns.items all records c.loop-index.level.keys.keys c.loop-index.level.columns.items c.loop-index.index h stands low (c.loop-index.invariant.keeps width all records h stands)
