-- Facts on why a subquery gives no values.
use Rattle.std.specs.Prelude.{⊤}
use Rattle.log_reading.specs.Spans.{BadLine, bad_line}
use Rattle.log_reading.specs.declared.span.RunFault.{RunFault}
use Rattle.log_reading.specs.declared.span.RunFault.TheVariants as R
use Rattle.query_types.specs.declared.fault.TypeFault.{TypeFault}
use Rattle.column_kinds.specs.declared.maker.Stop.{Stop}
use Rattle.column_kinds.specs.declared.maker.Stop.TheVariants as S
use Rattle.column_kinds.specs.declared.phase.Phase.{Phase}
use Rattle.column_kinds.specs.declared.phase.Phase.TheVariants as P
use Rattle.list_run.specs.declared.fault.ListFault.{ListFault}
use Rattle.list_run.specs.declared.fault.ListFault.TheVariants as F

-- P of the bad line that is one too many, where that is why
abbrev pub OnBad : (BadLine → Type 0) → ListFault → Type 0
OnBad P (F.Plan fault) = ⊤
OnBad P F.Logs = ⊤
OnBad P (F.Bad log row) = P (bad_line log row)
OnBad P F.Memory = ⊤

-- P of the fault by which the subquery has no plan, where that is why
abbrev pub OnUnplanned : (TypeFault → Type 0) → ListFault → Type 0
OnUnplanned P (F.Plan fault) = P fault
OnUnplanned P F.Logs = ⊤
OnUnplanned P (F.Bad log row) = ⊤
OnUnplanned P F.Memory = ⊤

-- why, where the reading of the logs stopped
abbrev pub read_fault : RunFault → ListFault
read_fault R.Memory = F.Memory
read_fault R.Logs = F.Logs
read_fault R.Output = F.Memory
read_fault R.Stopped = F.Memory
read_fault (R.Bad log row) = F.Bad log row

-- why, where the subquery has no plan over the columns that the sample told, or the reading of the logs stopped
abbrev pub fault_in : {M T : Type 0} → Phase M T → RunFault → ListFault
fault_in (P.Refused plan) fault = F.Plan plan
fault_in (P.Gathering gathering) fault = read_fault fault
fault_in (P.Taking taker) fault = read_fault fault
fault_in P.Lost fault = read_fault fault

-- why, where the sample stopped at its end
abbrev pub fault_of : {T : Type 0} → Stop T → ListFault
fault_of (S.Refused fault) = F.Plan fault
fault_of (S.Stopped taker) = F.Memory
fault_of S.Failed = F.Memory
fault_of S.Memory = F.Memory

-- a sample's end may stop by this: no reading of logs
abbrev pub IsOfEnd : ListFault → Type 0
IsOfEnd (F.Plan fault) = ⊤
IsOfEnd F.Logs = ⊥
IsOfEnd (F.Bad log row) = ⊥
IsOfEnd F.Memory = ⊤
