-- Facts on the fault of a run.
use Rattle.std.specs.Prelude.{Result, Ok, Err, ⊤}
use Rattle.log_reading.specs.Spans.{BadLine, bad_line}
use Rattle.query_types.specs.declared.fault.TypeFault.{TypeFault}
use Rattle.query_types.specs.declared.fault.TypeFault.TheVariants as T
use Rattle.row_output.specs.declared.fault.Refused.{Refused}
use Rattle.execution.specs.declared.fault.RunFault.{RunFault}
use Rattle.execution.specs.declared.fault.RunFault.TheVariants as F

-- P of the fault of the plan, where that is the answer
abbrev pub IfPlan : {T : Type 0} → Result T RunFault → (TypeFault → Type 0) → Type 0
IfPlan (Ok value) P = ⊤
IfPlan (Err (F.Plan fault)) P = P fault
IfPlan (Err (F.Refused why)) P = ⊤
IfPlan (Err F.LogsFault) P = ⊤
IfPlan (Err F.StageFault) P = ⊤
IfPlan (Err (F.ParseErrors log row)) P = ⊤
IfPlan (Err F.Memory) P = ⊤

-- P of the bad line that was one too many, where that is the answer
abbrev pub IfParse : {T : Type 0} → Result T RunFault → (BadLine → Type 0) → Type 0
IfParse (Ok value) P = ⊤
IfParse (Err (F.Plan fault)) P = ⊤
IfParse (Err (F.Refused why)) P = ⊤
IfParse (Err F.LogsFault) P = ⊤
IfParse (Err F.StageFault) P = ⊤
IfParse (Err (F.ParseErrors log row)) P = P (bad_line log row)
IfParse (Err F.Memory) P = ⊤

-- P of why an output is refused, where that is the answer
abbrev pub IfRefused : {T : Type 0} → Result T RunFault → (Refused → Type 0) → Type 0
IfRefused (Ok value) P = ⊤
IfRefused (Err (F.Plan fault)) P = ⊤
IfRefused (Err (F.Refused why)) P = P why
IfRefused (Err F.LogsFault) P = ⊤
IfRefused (Err F.StageFault) P = ⊤
IfRefused (Err (F.ParseErrors log row)) P = ⊤
IfRefused (Err F.Memory) P = ⊤

-- why a plan isn't made
abbrev pub unplanned : TypeFault → RunFault
unplanned (T.UnknownField at) = F.Plan (T.UnknownField at)
unplanned (T.UnknownFunction at) = F.Plan (T.UnknownFunction at)
unplanned (T.KindMismatch at) = F.Plan (T.KindMismatch at)
unplanned (T.WrongArity at) = F.Plan (T.WrongArity at)
unplanned (T.TooFewColumns at) = F.Plan (T.TooFewColumns at)
unplanned (T.BadPattern at) = F.Plan (T.BadPattern at)
unplanned (T.NotInSelect at) = F.Plan (T.NotInSelect at)
unplanned (T.NotGrouped at) = F.Plan (T.NotGrouped at)
unplanned (T.NestedAggregate at) = F.Plan (T.NestedAggregate at)
unplanned (T.StarWithGroups at) = F.Plan (T.StarWithGroups at)
unplanned T.Memory = F.Memory
