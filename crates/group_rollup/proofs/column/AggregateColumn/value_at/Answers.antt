use Rattle.std.proofs.Common.{◌≡◌, sym, subst}
use Rattle.std.specs.Option.{MatchOption}
use Rattle.lp_values.specs.declared.value.Value.TheVariants.{Null}
use Rattle.group_rollup.specs.declared.column.AggregateColumn.{AggregateColumn}
use Rattle.group_rollup.specs.Columns.{value_at}
use Rattle.group_rollup.proofs.Places.{looked_up}
use Rattle.group_rollup.proofs.column.AggregateColumn.value_at.Goals as goal

pub returns-in-Least : goal.returns-in-Least
returns-in-Least c = subst (λ (column : AggregateColumn). MatchOption c.get.result (value_at column c.args.index ≡ Null) (λ value. value_at column c.args.index ≡ value.now)) (sym c.in-Least.is) (looked_up c.in-Least.values c.args.index c.get.result c.get.ensures)

pub returns-in-Greatest : goal.returns-in-Greatest
returns-in-Greatest c = subst (λ (column : AggregateColumn). MatchOption c.get-in-Greatest.result (value_at column c.args.index ≡ Null) (λ value. value_at column c.args.index ≡ value.now)) (sym c.in-Greatest.is) (looked_up c.in-Greatest.values c.args.index c.get-in-Greatest.result c.get-in-Greatest.ensures)
