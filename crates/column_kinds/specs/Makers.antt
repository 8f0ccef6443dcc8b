-- Why no taker is made.
use Rattle.std.specs.Prelude.{⊤}
use Rattle.query_types.specs.declared.fault.TypeFault.{TypeFault}
use Rattle.column_kinds.specs.declared.maker.Unmade.{Unmade}
use Rattle.column_kinds.specs.declared.maker.Unmade.TheVariants as U
use Rattle.column_kinds.specs.declared.maker.Stop.{Stop}
use Rattle.column_kinds.specs.declared.maker.Stop.TheVariants as S

-- P of the fault by which none is made
abbrev pub OnRefused : Unmade → (TypeFault → Type 0) → Type 0
OnRefused (U.Refused fault) P = P fault
OnRefused U.Memory P = ⊤

-- why it stops, where no taker is made
abbrev pub stop_unmade : {T : Type 0} → Unmade → Stop T
stop_unmade (U.Refused fault) = S.Refused fault
stop_unmade U.Memory = S.Memory

-- P of the taker that wants no more rows, where that is why
abbrev pub OnHalted : {T : Type 0} → (T → Type 0) → Stop T → Type 0
OnHalted P (S.Refused fault) = ⊤
OnHalted P (S.Stopped taker) = P taker
OnHalted P S.Failed = ⊤
OnHalted P S.Memory = ⊤
