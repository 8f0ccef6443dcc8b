-- Why a run stops, where the reading of its logs did, or its end.
use Rattle.std.proofs.Common.{◌≡◌, IsErrOf, Option, Some, None, Err, refl, subst}
use Rattle.log_reading.specs.declared.span.RunFault.{RunFault}
use Rattle.log_reading.specs.declared.span.RunFault.TheVariants as R
use Rattle.log_reading.specs.Spans.{BadLine, OnBadLine}
use Rattle.row_output.specs.declared.fault.OutputFault.{OutputFault}
use Rattle.row_output.specs.declared.fault.OutputFault.TheVariants as O
use Rattle.row_output.specs.declared.fault.Refused.{Refused}
use Rattle.sampled_run.specs.declared.fault.SampleFault.{SampleFault}
use Rattle.sampled_run.specs.declared.fault.SampleFault.TheVariants as F
use Rattle.sampled_run.specs.Ran.{IsOfEnd, OnBadOne, ended_by, read_fault, refused_in}

bad_refused : (refused : Option Refused) (Q : BadLine → Type 0) → OnBadOne (read_fault R.Stopped refused) Q
bad_refused None Q = tt
bad_refused (Some why) Q = tt

pub bad_read : (fault : RunFault) (refused : Option Refused) (Q : BadLine → Type 0) → OnBadLine fault Q → OnBadOne (read_fault fault refused) Q
bad_read R.Memory refused Q q = tt
bad_read R.Logs refused Q q = tt
bad_read R.Output refused Q q = tt
bad_read R.Stopped refused Q q = bad_refused refused Q
bad_read (R.Bad log row) refused Q q = q

-- the fault of an answer
pub fault_same : {T E : Type 0} (a b : E) → IsErrOf {T = T} {E = E} (Err a) b → a ≡ b
fault_same a b is = cc

logs_refused : (refused : Option Refused) → read_fault R.Stopped refused ≡ F.Logs → ⊥
logs_refused None e = absurd cc
logs_refused (Some why) e = absurd cc

pub read_logs : (fault : RunFault) (refused : Option Refused) → read_fault fault refused ≡ F.Logs → fault ≡ R.Logs
read_logs R.Memory refused e = absurd cc
read_logs R.Logs refused e = refl
read_logs R.Output refused e = absurd cc
read_logs R.Stopped refused e = absurd (logs_refused refused e)
read_logs (R.Bad log row) refused e = absurd cc

output_refused : (refused : Option Refused) → read_fault R.Stopped refused ≡ F.Output → ⊥
output_refused None e = absurd cc
output_refused (Some why) e = absurd cc

pub read_output : (fault : RunFault) (refused : Option Refused) → read_fault fault refused ≡ F.Output → fault ≡ R.Output
read_output R.Memory refused e = absurd cc
read_output R.Logs refused e = absurd cc
read_output R.Output refused e = refl
read_output R.Stopped refused e = absurd (output_refused refused e)
read_output (R.Bad log row) refused e = absurd cc

-- ---- at the end

pub refused_end : (refused : Option Refused) → IsOfEnd (refused_in refused)
refused_end None = tt
refused_end (Some why) = tt

pub output_end : (fault : OutputFault) → IsOfEnd (ended_by fault)
output_end (O.Refused why) = tt
output_end O.Failed = tt
output_end O.Memory = tt

pub bad_end : (fault : SampleFault) (Q : BadLine → Type 0) → IsOfEnd fault → OnBadOne fault Q
bad_end (F.Plan fault) Q end = tt
bad_end (F.Refused why) Q end = tt
bad_end (F.Bad log row) Q end = absurd end
bad_end F.Logs Q end = tt
bad_end F.Output Q end = tt
bad_end F.Memory Q end = tt

pub logs_end : (fault : SampleFault) → IsOfEnd fault → fault ≡ F.Logs → ⊥
logs_end fault end is = subst IsOfEnd is end
