-- Why no plan is made.
use Rattle.std.specs.Prelude.{◌≡◌, Result, Err, ⊤}
use Rattle.query_types.specs.declared.fault.TypeFault.{TypeFault}
use Rattle.query_types.specs.declared.fault.TypeFault.TheVariants as T
use Rattle.query_types.specs.Planned.{Planned}
use Rattle.column_kinds.specs.declared.maker.Unmade.{Unmade}
use Rattle.column_kinds.specs.declared.maker.Unmade.TheVariants as U

abbrev pub unplanned : TypeFault → Unmade
unplanned (T.UnknownField at) = U.Refused (T.UnknownField at)
unplanned (T.UnknownFunction at) = U.Refused (T.UnknownFunction at)
unplanned (T.KindMismatch at) = U.Refused (T.KindMismatch at)
unplanned (T.WrongArity at) = U.Refused (T.WrongArity at)
unplanned (T.TooFewColumns at) = U.Refused (T.TooFewColumns at)
unplanned (T.BadPattern at) = U.Refused (T.BadPattern at)
unplanned (T.NotInSelect at) = U.Refused (T.NotInSelect at)
unplanned (T.NotGrouped at) = U.Refused (T.NotGrouped at)
unplanned (T.NestedAggregate at) = U.Refused (T.NestedAggregate at)
unplanned (T.StarWithGroups at) = U.Refused (T.StarWithGroups at)
unplanned T.Memory = U.Memory

-- the fault of a plan, where that is why none is made
abbrev pub IsFaultOf : Result Planned TypeFault → Unmade → Type 0
IsFaultOf planned (U.Refused fault) = planned ≡ Err fault
IsFaultOf planned U.Memory = ⊤
