use Rattle.std.proofs.Common.{◌≡◌, ◌++◌, drop, option_map}
use Rattle.query_types.specs.Conditions.{filter_of}
use Rattle.query_types.specs.Planned.{used_from}
use Rattle.query_types.proofs.using_columns.used_columns.Given as goal

abbrev pub invariant-loop-index : goal.invariant-loop-index
invariant-loop-index l = used_from 0 l.table.columns l.aliased l.items (option_map filter_of l.condition)
    ≡ l.used ++ used_from l.index (drop l.index l.table.columns) l.aliased l.items (option_map filter_of l.condition)
