-- A fact on a fault that is handed on.
use Rattle.std.proofs.Common.{◌≡◌, ℕ, Result, Ok, Err, OnOk, IfErr, IsErrAnd, sym, subst}
use Rattle.log_reading.specs.declared.taker.LineFault.{LineFault}
use Rattle.log_reading.specs.declared.taker.LineFault.TheVariants as L
use Rattle.log_reading.specs.declared.span.RunFault.{RunFault}
use Rattle.log_reading.specs.declared.span.RunFault.TheVariants as R
use Rattle.log_reading.specs.Page.{OnBad}
use Rattle.log_reading.specs.Spans.{BadLine, OnBadLine, bad_line}

pub on_ok_map : {T E : Type 0} (P Q : Type 0) (r : Result T E) → (P → Q) → OnOk r P → OnOk r Q
on_ok_map P Q (Ok value) h p = h p
on_ok_map P Q (Err fault) h p = tt

pub handed_on : {T E : Type 0} (r : Result T E) (fault : E) (Q : E → Type 0) → IsErrAnd r (λ given. given ≡ fault) → Q fault → IfErr r Q
handed_on (Ok value) fault Q is q = absurd is
handed_on (Err given) fault Q is q = subst Q (sym is) q

pub bad_so : (fault : LineFault) (P Q : ℕ → Type 0) → ((row : ℕ) → P row → Q row) → OnBad fault P → OnBad fault Q
bad_so L.Memory P Q so p = tt
bad_so L.Failed P Q so p = tt
bad_so L.Stopped P Q so p = tt
bad_so (L.Bad row) P Q so p = so row p

pub bad_line_so : (fault : RunFault) (P Q : BadLine → Type 0) → ((line : BadLine) → P line → Q line) → OnBadLine fault P → OnBadLine fault Q
bad_line_so R.Memory P Q so p = tt
bad_line_so R.Logs P Q so p = tt
bad_line_so R.Output P Q so p = tt
bad_line_so R.Stopped P Q so p = tt
bad_line_so (R.Bad log row) P Q so p = so (bad_line log row) p
