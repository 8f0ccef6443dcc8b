use Rattle.std.proofs.Common.{◌≡◌, map, take}
use Rattle.query_types.specs.declared.table.NamedKind.{NamedKind}
use Rattle.column_naming.proofs.naming.column_names.Given as goal

abbrev pub invariant-loop-column : goal.invariant-loop-column
invariant-loop-column l = l.names ≡ map (λ (column : NamedKind). column.name) (take l.column-index l.column-items)
