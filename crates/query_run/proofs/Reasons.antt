-- Facts on why a run stops.
use Rattle.std.proofs.Common.{◌≡◌, Option, Some, None, Result, Ok, Err, IfErr, IfSome, IsSome, is_some, ap, sym, subst, refl}
use Rattle.lp_model.specs.Outside.{Folder, Told}
use Rattle.log_reading.specs.Spans.{BadLine, OnBadLine, bad_line}
use Rattle.log_reading.specs.declared.span.RunFault.{RunFault}
use Rattle.log_reading.specs.declared.span.RunFault.TheVariants as R
use Rattle.log_reading.specs.declared.taker.TakeFault.{TakeFault}
use Rattle.log_reading.specs.declared.taker.TakeFault.TheVariants as T
use Rattle.row_output.specs.FileRows.{OnRefused}
use Rattle.row_output.specs.declared.fault.OutputFault.{OutputFault}
use Rattle.row_output.specs.declared.fault.OutputFault.TheVariants as O
use Rattle.row_output.specs.declared.fault.Refused.{Refused}
use Rattle.query_run.specs.Faults.{OnBad, OnRefusedOutput, ended_by, stopped_at, stopped_in}
use Rattle.query_run.specs.Writer.{refused_by, take_fault}
use Rattle.query_run.specs.declared.fault.WriteFault.{WriteFault}
use Rattle.query_run.specs.declared.fault.WriteFault.TheVariants as W

-- why an output was refused
pub refused_at : (fault : TakeFault) (refused : Option Refused) (P : Refused → Type 0) → IfSome refused P → OnRefusedOutput P (stopped_at fault refused)
refused_at T.Memory refused P so = tt
refused_at T.Failed refused P so = tt
refused_at T.Stopped None P so = tt
refused_at T.Stopped (Some why) P so = so

pub refused_in : (fault : RunFault) (refused : Option Refused) (P : Refused → Type 0) → IfSome refused P → OnRefusedOutput P (stopped_in fault refused)
refused_in R.Memory refused P so = tt
refused_in R.Logs refused P so = tt
refused_in R.Output refused P so = tt
refused_in R.Stopped None P so = tt
refused_in R.Stopped (Some why) P so = so
refused_in (R.Bad log row) refused P so = tt

pub refused_end : (fault : OutputFault) (P Q : Refused → Type 0) → ((why : Refused) → P why → Q why) → OnRefused P fault → OnRefusedOutput Q (ended_by fault)
refused_end (O.Refused why) P Q so p = so why p
refused_end O.Failed P Q so p = tt
refused_end O.Memory P Q so p = tt

-- a fact of why an output was refused, of the rows that the logs hold
pub told_why : (told : Option Folder) (Kept : Folder → Type 0) (refused : Option Refused) (P : Folder → Refused → Type 0) → Told told (λ folder. Kept folder → IfSome refused (P folder)) → IfSome refused (λ why. Told told (λ folder. Kept folder → P folder why))
told_why told Kept None P so = tt
told_why told Kept (Some why) P so = so

-- the refusal of an output is kept
pub refused_kept : (before : Option Refused) (fault : OutputFault) (P Q : Refused → Type 0) → ((why : Refused) → P why → Q why) → before ≡ None → OnRefused P fault → IfSome (refused_by before fault) Q
refused_kept before (O.Refused why) P Q so none p = so why p
refused_kept before O.Failed P Q so none p = subst (λ (o : Option Refused). IfSome o Q) (sym none) tt
refused_kept before O.Memory P Q so none p = subst (λ (o : Option Refused). IfSome o Q) (sym none) tt

-- a writer that wants no more rows has kept why
pub take_stopped : (before : Option Refused) (fault : OutputFault) (now : Option Refused) → now ≡ refused_by before fault → take_fault fault ≡ T.Stopped → IsSome now
take_stopped before (O.Refused why) now same e = ap is_some same
take_stopped before O.Failed now same e = absurd cc
take_stopped before O.Memory now same e = absurd cc

pub take_failed : (fault : OutputFault) → take_fault fault ≡ T.Failed → fault ≡ O.Failed
take_failed (O.Refused why) e = absurd cc
take_failed O.Failed e = refl
take_failed O.Memory e = absurd cc

-- a bad line was one too many
pub bad_in : (fault : RunFault) (refused : Option Refused) (P : BadLine → Type 0) → OnBadLine fault P → OnBad P (stopped_in fault refused)
bad_in R.Memory refused P so = tt
bad_in R.Logs refused P so = tt
bad_in R.Output refused P so = tt
bad_in R.Stopped None P so = tt
bad_in R.Stopped (Some why) P so = tt
bad_in (R.Bad log row) refused P so = so

pub bad_at : (fault : TakeFault) (refused : Option Refused) (P : BadLine → Type 0) → OnBad P (stopped_at fault refused)
bad_at T.Memory refused P = tt
bad_at T.Failed refused P = tt
bad_at T.Stopped None P = tt
bad_at T.Stopped (Some why) P = tt

pub bad_end : (fault : OutputFault) (P : BadLine → Type 0) → OnBad P (ended_by fault)
bad_end (O.Refused why) P = tt
bad_end O.Failed P = tt
bad_end O.Memory P = tt

-- which call failed
pub output_at : (fault : TakeFault) (refused : Option Refused) → stopped_at fault refused ≡ W.Output → fault ≡ T.Failed
output_at T.Memory refused e = absurd cc
output_at T.Failed refused e = refl
output_at T.Stopped None e = absurd cc
output_at T.Stopped (Some why) e = absurd cc

pub logs_at : (fault : TakeFault) (refused : Option Refused) → stopped_at fault refused ≡ W.Logs → ⊥
logs_at T.Memory refused e = cc
logs_at T.Failed refused e = cc
logs_at T.Stopped None e = cc
logs_at T.Stopped (Some why) e = cc

pub output_in : (fault : RunFault) (refused : Option Refused) → stopped_in fault refused ≡ W.Output → fault ≡ R.Output
output_in R.Memory refused e = absurd cc
output_in R.Logs refused e = absurd cc
output_in R.Output refused e = refl
output_in R.Stopped None e = absurd cc
output_in R.Stopped (Some why) e = absurd cc
output_in (R.Bad log row) refused e = absurd cc

pub logs_in : (fault : RunFault) (refused : Option Refused) → stopped_in fault refused ≡ W.Logs → fault ≡ R.Logs
logs_in R.Memory refused e = absurd cc
logs_in R.Logs refused e = refl
logs_in R.Output refused e = absurd cc
logs_in R.Stopped None e = absurd cc
logs_in R.Stopped (Some why) e = absurd cc
logs_in (R.Bad log row) refused e = absurd cc

pub output_end : (fault : OutputFault) → ended_by fault ≡ W.Output → fault ≡ O.Failed
output_end (O.Refused why) e = absurd cc
output_end O.Failed e = refl
output_end O.Memory e = absurd cc

pub logs_end : (fault : OutputFault) → ended_by fault ≡ W.Logs → ⊥
logs_end (O.Refused why) e = cc
logs_end O.Failed e = cc
logs_end O.Memory e = cc

-- a fact of a fault that is handed on
pub refused_so : (fault : WriteFault) (P Q : Refused → Type 0) → ((why : Refused) → P why → Q why) → OnRefusedOutput P fault → OnRefusedOutput Q fault
refused_so W.Memory P Q so p = tt
refused_so W.Logs P Q so p = tt
refused_so W.Output P Q so p = tt
refused_so (W.Refused why) P Q so p = so why p
refused_so (W.Bad log row) P Q so p = tt

pub bad_so : (fault : WriteFault) (P Q : BadLine → Type 0) → ((line : BadLine) → P line → Q line) → OnBad P fault → OnBad Q fault
bad_so W.Memory P Q so p = tt
bad_so W.Logs P Q so p = tt
bad_so W.Output P Q so p = tt
bad_so (W.Refused why) P Q so p = tt
bad_so (W.Bad log row) P Q so p = so (bad_line log row) p

-- what holds of each bad line holds of one that is why
pub bad_all : (fault : WriteFault) (Q : BadLine → Type 0) → ((line : BadLine) → Q line) → OnBad Q fault
bad_all W.Memory Q so = tt
bad_all W.Logs Q so = tt
bad_all W.Output Q so = tt
bad_all (W.Refused why) Q so = tt
bad_all (W.Bad log row) Q so = so (bad_line log row)

pub bad_each : {T : Type 0} (r : Result T WriteFault) (Q : BadLine → Type 0) → ((line : BadLine) → Q line) → IfErr r (OnBad Q)
bad_each (Ok value) Q so = tt
bad_each (Err W.Memory) Q so = tt
bad_each (Err W.Logs) Q so = tt
bad_each (Err W.Output) Q so = tt
bad_each (Err (W.Refused why)) Q so = tt
bad_each (Err (W.Bad log row)) Q so = so (bad_line log row)

-- what holds of each refusal holds of one that is why
pub refused_all : (fault : WriteFault) (Q : Refused → Type 0) → ((why : Refused) → Q why) → OnRefusedOutput Q fault
refused_all W.Memory Q so = tt
refused_all W.Logs Q so = tt
refused_all W.Output Q so = tt
refused_all (W.Refused why) Q so = so why
refused_all (W.Bad log row) Q so = tt

pub refused_each : {T : Type 0} (r : Result T WriteFault) (Q : Refused → Type 0) → ((why : Refused) → Q why) → IfErr r (OnRefusedOutput Q)
refused_each (Ok value) Q so = tt
refused_each (Err fault) Q so = refused_all fault Q so

-- two facts of why an output was refused
pub both_some : (refused : Option Refused) (P Q R : Refused → Type 0) → ((why : Refused) → P why → Q why → R why) → IfSome refused P → IfSome refused Q → IfSome refused R
both_some None P Q R so p q = tt
both_some (Some why) P Q R so p q = so why p q
