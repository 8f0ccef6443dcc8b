-- Conditions in boxes.
use Rattle.std.specs.Prelude.{Box}
use Rattle.std.specs.declared.alloc.Global.{Global}
use Rattle.query_types.specs.declared.condition.Condition.{Condition}
use Rattle.query_types.specs.Conditions.{Filter, filter_of}

-- what a condition in a box is, less where it lies in memory
abbrev pub boxed_filter : Box Condition Global → Filter
boxed_filter box = filter_of box.value
