-- A whole commit: what two texts make of the files, and what each image stands for.
use Rattle.std.specs.Prelude.{◌≡◌, ◌≢◌, ◌⊎◌, ℕ, ◌≤◌, List, [], ◌∷◌, ◌++◌, Result, OnOk, IfErr}
use Rattle.lp_model.specs.Outside.{Rose}
use Rattle.disk_model.specs.Disk.{Files, DiskState}
use Rattle.ledger_model.specs.Entries.{Entry, Output}
use Rattle.lp_outside.specs.declared.stage.Mark.{Mark}
use Rattle.recovery_model.specs.Recovered.{Recovers}
use Rattle.commit.specs.States.{IsGood}
use Rattle.commit.specs.Resume.{CanSettle}
use Rattle.commit.specs.declared.running.Refused.{Refused}
use Rattle.commit.specs.declared.running.Refused.TheVariants.{Memory, Failed}
use Rattle.recovery_model.specs.Recovered.{RecoversAsBefore}

-- a run was refused before its gate: for the disk only where that counted a fault, and for want of memory only where it counted none
abbrev pub RefusedFor : ℕ → ℕ → Refused → Type 0
RefusedFor before now Memory = now ≡ before
RefusedFor before now Failed = Rose before now

-- a count of faults never falls, stays where the call is done, and tells the one refusal from the other
pub record HasRefusal {T : Type 0} (before now : ℕ) (result : Result T Refused) : Type 0 where
  pub later : before ≤ now
  pub same : OnOk result (now ≡ before)
  pub refused : IfErr result (RefusedFor before now)

-- two files gain a text each, and all others stay
pub record AddsTwo (first one second two : List ℕ) (before after : Files) : Type 0 where
  pub first_is : after first ≡ before first ++ one
  pub second_is : after second ≡ before second ++ two
  pub others : (name : List ℕ) → name ≢ first → name ≢ second → after name ≡ before name

-- an output by its name, the place where its text begins and the mark behind it
abbrev pub output_at : List ℕ → ℕ → Mark → Output
output_at name base mark = record { name = name; base = base; size = mark.length; last = mark.last }

-- an image stands for what some image stood for at first, or for the state with the entry
abbrev pub BeforeOrWith : DiskState → List ℕ → List ℕ → List Entry → Entry → Files → Files → Type 0
BeforeOrWith old ledger stage entries entry after image = RecoversAsBefore old ledger stage image ⊎ Recovers ledger stage (entries ++ entry ∷ []) after image

-- A disk may have been stopped anywhere, a read gives these entries and files, and with this entry the files would have two texts more.
pub record MayCommit (disk : DiskState) (ledger stage : List ℕ) (entries : List Entry) (entry : Entry) (first one second two : List ℕ) (before after : Files) : Type 0 where
  pub can : CanSettle disk ledger stage
  pub recovers : Recovers ledger stage entries before disk.seen
  pub adds : AddsTwo first one second two before after
  pub good : IsGood ledger stage entry
