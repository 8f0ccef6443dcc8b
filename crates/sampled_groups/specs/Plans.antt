-- Why no plan by groups is made.
use Rattle.std.specs.Prelude.{◌≡◌, Result, Err, ⊤}
use Rattle.query_types.specs.declared.fault.TypeFault.{TypeFault}
use Rattle.column_kinds.specs.declared.maker.Unmade.{Unmade}
use Rattle.column_kinds.specs.declared.maker.Unmade.TheVariants as U
use Rattle.group_planning.specs.Groups.{Grouped}

-- the fault of a plan, where that is why none is made
abbrev pub IsFaultOf : Result Grouped TypeFault → Unmade → Type 0
IsFaultOf planned (U.Refused fault) = planned ≡ Err fault
IsFaultOf planned U.Memory = ⊤
