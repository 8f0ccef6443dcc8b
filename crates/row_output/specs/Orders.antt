-- A finish that asks nothing.
use Rattle.std.specs.Prelude.{◌≡◌, false, [], None}
use Rattle.order_top.specs.Finish.{Finish}

-- it leaves all rows, in their order
abbrev pub IsPlain : Finish → Type 0
IsPlain finish = (finish.columns ≡ []) × (finish.distinct ≡ false) × (finish.top ≡ None)
