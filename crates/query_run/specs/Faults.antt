-- Facts on why a run stops.
use Rattle.std.specs.Prelude.{Option, Some, None, ⊤}
use Rattle.log_reading.specs.Spans.{BadLine, bad_line}
use Rattle.log_reading.specs.declared.span.RunFault.{RunFault}
use Rattle.log_reading.specs.declared.span.RunFault.TheVariants as R
use Rattle.log_reading.specs.declared.taker.TakeFault.{TakeFault}
use Rattle.log_reading.specs.declared.taker.TakeFault.TheVariants as T
use Rattle.row_output.specs.declared.fault.OutputFault.{OutputFault}
use Rattle.row_output.specs.declared.fault.OutputFault.TheVariants as O
use Rattle.row_output.specs.declared.fault.Refused.{Refused}
use Rattle.query_run.specs.declared.fault.WriteFault.{WriteFault}
use Rattle.query_run.specs.declared.fault.WriteFault.TheVariants as W

-- P of the bad line that is one too many, where that is why
abbrev pub OnBad : (BadLine → Type 0) → WriteFault → Type 0
OnBad P W.Memory = ⊤
OnBad P W.Logs = ⊤
OnBad P W.Output = ⊤
OnBad P (W.Refused why) = ⊤
OnBad P (W.Bad log row) = P (bad_line log row)

-- P of why an output is refused, where that is why
abbrev pub OnRefusedOutput : (Refused → Type 0) → WriteFault → Type 0
OnRefusedOutput P W.Memory = ⊤
OnRefusedOutput P W.Logs = ⊤
OnRefusedOutput P W.Output = ⊤
OnRefusedOutput P (W.Refused why) = P why
OnRefusedOutput P (W.Bad log row) = ⊤

-- an output was refused for this, or else
abbrev pub refused_or : Option Refused → WriteFault → WriteFault
refused_or None fault = fault
refused_or (Some why) fault = W.Refused why

-- why a run stops, where its writer did, or the reading of its logs
abbrev pub stopped_at : TakeFault → Option Refused → WriteFault
stopped_at T.Memory refused = W.Memory
stopped_at T.Failed refused = W.Output
stopped_at T.Stopped refused = refused_or refused W.Memory

abbrev pub stopped_in : RunFault → Option Refused → WriteFault
stopped_in R.Memory refused = W.Memory
stopped_in R.Logs refused = W.Logs
stopped_in R.Output refused = W.Output
stopped_in R.Stopped refused = refused_or refused W.Memory
stopped_in (R.Bad log row) refused = W.Bad log row

abbrev pub ended_by : OutputFault → WriteFault
ended_by (O.Refused why) = W.Refused why
ended_by O.Failed = W.Output
ended_by O.Memory = W.Memory
