-- What is kept of a subquery's values, in order, beside the set of them.
use Rattle.std.specs.Prelude.{Bool, List, []}
use Rattle.std.specs.Ordering.{is_eq}
use Rattle.lp_values.specs.declared.value.Value.{Value}
use Rattle.lp_values.specs.Order.{order_of}
use Rattle.order_top.specs.Lists.{first_occurrences}
use Rattle.list_run.specs.declared.keep.Keep.{Keep}
use Rattle.list_run.specs.declared.keep.Keep.TheVariants as K

-- two values are one where neither goes before the other
abbrev pub same_value : Value → Value → Bool
same_value a b = is_eq (order_of a b)

-- none, all of them, or the first occurrences alone
abbrev pub kept_values : Keep → List Value → List Value
kept_values K.Nothing values = []
kept_values K.All values = values
kept_values K.Distinct values = first_occurrences same_value values
