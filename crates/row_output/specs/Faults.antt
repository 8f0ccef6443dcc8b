-- Faults of what is below, as faults of rows.
use Rattle.multiplex.specs.declared.place_fault.PlaceFault.{PlaceFault}
use Rattle.multiplex.specs.declared.place_fault.PlaceFault.TheVariants as P
use Rattle.text_output.specs.declared.fault.PutFault.{PutFault}
use Rattle.text_output.specs.declared.fault.PutFault.TheVariants as T
use Rattle.row_output.specs.declared.fault.OutputFault.{OutputFault}
use Rattle.row_output.specs.declared.fault.OutputFault.TheVariants as F
use Rattle.row_output.specs.declared.fault.Refused.TheVariants as R

-- why a text isn't put
abbrev pub put_fault : PutFault → OutputFault
put_fault T.Failed = F.Failed
put_fault T.Memory = F.Memory

-- why a row has no output
abbrev pub place_fault : PlaceFault → OutputFault
place_fault P.TooManyOutputs = F.Refused R.TooManyOutputs
place_fault (P.BadName fault) = F.Refused (R.BadName fault)
place_fault (P.NameClash name) = F.Refused (R.NameClash name)
place_fault P.Memory = F.Memory
