use Rattle.std.proofs.Common.{◌≡◌, ◌++◌, map, drop}
use Rattle.query_types.specs.Planned.{columns_from}
use Rattle.senses.specs.Senses.{field, sense_of}
use Rattle.group_planning.proofs.selecting.columns_sensed.Given as goal

abbrev pub invariant-loop-index : goal.invariant-loop-index
invariant-loop-index l = map (field l.star) (columns_from 0 l.table.columns) ≡ map sense_of l.senses.items ++ map (field l.star) (columns_from l.index (drop l.index l.table.columns))
