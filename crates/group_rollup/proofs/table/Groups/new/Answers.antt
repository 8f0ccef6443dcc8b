use Rattle.std.proofs.Common.{ℕ, subst, refl, ap, sym, ◌∙◌, List, [], map, length, arith}
use Rattle.std.proofs.lemmas.List.{length-map}
use Rattle.lp_values.specs.declared.group.AggKind.{AggKind}
use Rattle.group_rollup.specs.contracts.table.Groups.{the_view}
use Rattle.group_rollup.specs.declared.column.AggregateColumn.{AggregateColumn}
use Rattle.group_rollup.specs.Columns.{AllHave, no_column}
use Rattle.group_rollup.specs.Tables.{Holds}
use Rattle.group_rollup.proofs.ColumnLemmas.{none_have}
use Rattle.group_rollup.proofs.TableLemmas.{holds_none}
use Rattle.group_rollup.proofs.table.Groups.new.Goals as goal

pub invariant_of-result : goal.invariant_of-result
invariant_of-result c =
    let kinds = c.args.aggregates.now in
    let none = c.in_ok-new.ensures.columns ∙ ap (map no_column) c.as_slice.ensures in (
      subst (λ (columns : List AggregateColumn). AllHave (length c.in_ok-new.field-0.keys.keys) columns) (sym none) (subst (λ (n : ℕ). AllHave n (map no_column kinds)) (sym (ap length c.in_ok-new.ensures.keys)) (none_have kinds)),
      ap length none ∙ (length-map kinds no_column ∙ sym (ap length c.in_ok-copy_kinds.ensures)),
      omega arith,
    )

pub returns : goal.returns
returns c =
    let table = the_view (record { width = c.args.keys; kinds = c.in_ok-copy_kinds.field-0; rollup = c.args.rollup; rows = c.in_ok-new.field-0; records = 0 }) in
    let none = c.in_ok-new.ensures.columns ∙ ap (map no_column) (c.as_slice.ensures ∙ sym c.in_ok-copy_kinds.ensures) in
    subst (λ (kinds : List AggKind). Holds c.args.keys kinds c.args.rollup table []) c.in_ok-copy_kinds.ensures (holds_none table c.in_ok-new.ensures.keys none refl)
