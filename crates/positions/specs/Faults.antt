-- Faults of a load.
use Rattle.std.specs.Prelude.{◌≡◌, ℕ, ◌≤◌, Result, IfErr, OnOk}
use Rattle.std.specs.Bool.{⊤}
use Rattle.lp_model.specs.Outside.{Rose}
use Rattle.ledger.specs.declared.refused.LedgerRefused.{LedgerRefused}
use Rattle.ledger.specs.declared.refused.LedgerRefused.TheVariants as Refused
use Rattle.ledger.specs.declared.refused.TextRefused.{TextRefused}
use Rattle.ledger.specs.declared.refused.TextRefused.TheVariants as Text
use Rattle.positions.specs.declared.fault.LoadFault.{LoadFault}
use Rattle.positions.specs.declared.fault.LoadFault.TheVariants.{DiskFault, LedgerFault, Memory}

abbrev pub of_ledger : LedgerRefused → LoadFault
of_ledger Refused.DiskFault = DiskFault
of_ledger (Refused.LedgerFault part at) = LedgerFault part at

abbrev pub of_text : TextRefused → LoadFault
of_text Text.DiskFault = DiskFault
of_text (Text.LedgerFault part at) = LedgerFault part at
of_text Text.Memory = Memory

-- no fault of the bytes
abbrev pub IsNoFault : LoadFault → Type 0
IsNoFault DiskFault = ⊤
IsNoFault (LedgerFault part at) = ⊥
IsNoFault Memory = ⊤

-- a disk's fault is one that it counted, and where memory is wanted it counted none
abbrev pub LoadRoseFor : ℕ → ℕ → LoadFault → Type 0
LoadRoseFor before now DiskFault = Rose before now
LoadRoseFor before now (LedgerFault part at) = ⊤
LoadRoseFor before now Memory = now ≡ before

-- a count of faults never falls, stays where the call is done or wants memory, and a call is refused for the disk only where it rose
pub record HasLoadReason {T : Type 0} (before now : ℕ) (result : Result T LoadFault) : Type 0 where
  pub later : before ≤ now
  pub same : OnOk result (now ≡ before)
  pub failed : IfErr result (LoadRoseFor before now)
