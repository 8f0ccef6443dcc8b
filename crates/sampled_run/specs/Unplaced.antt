-- That no output is placed holds in one way.
use Rattle.std.specs.Prelude.{[]}
use Rattle.std.specs.Coded.{Coded-set, Unit-prop, coded_list, coded_ℕ}
use Rattle.row_output.specs.Sinks.{IsUnplaced}
use Rattle.row_output.specs.declared.into.Into.{Into}
use Rattle.row_output.specs.declared.into.Into.TheVariants as I

pub unplaced_once : (into : Into) → IsProp (IsUnplaced into)
unplaced_once I.Standard = Unit-prop
unplaced_once (I.Files outputs mode) = Coded-set (coded_list (coded_list coded_ℕ)) outputs.names []
