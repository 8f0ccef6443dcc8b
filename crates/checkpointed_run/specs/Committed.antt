-- A run over a ledger, from the disk that it found to the one that it leaves: each phase, in the words of the commit.
use Rattle.std.specs.Prelude.{◌++◌, [], ◌∷◌, List, Option}
use Rattle.std.specs.Bool.{⊤}
use Rattle.lp_model.specs.Outside.{Folder}
use Rattle.disk_model.specs.Disk.{DiskState, Files}
use Rattle.ledger_model.specs.Entries.{Entry}
use Rattle.log_reading.specs.declared.span.Span.{Span}
use Rattle.query_run.specs.declared.executing.Counts.{Counts}
use Rattle.tpl_output.specs.Sections.{Sections}
use Rattle.commit.specs.declared.phases.Commit.{Commit}
use Rattle.commit.specs.Phases.{Settled, Sealed}
use Rattle.run_entry.specs.Entries.{Request}
use Rattle.checkpointed_run.specs.Phases.{IsSettledFrom, IsSealedFrom, IsOpenedFrom, IsFinishedFrom, IsDamageFrom}
use Rattle.checkpointed_run.specs.Staged.{HasStagedRun}
use Rattle.checkpointed_run.specs.Stops.{IsDamagedStop}
use Rattle.checkpointed_run.specs.declared.running.RunStop.{RunStop}
use Rattle.checkpointed_run.specs.declared.running.RunStop.TheVariants as R

-- A run came to its gate: the disk was settled, the run staged, and its entry sealed.
pub record ComesToGate {D : Type 0} (state : D → DiskState) (request : Request) (template : Sections) (began told : Option Folder) (spans : List Span) (old gate : Commit D) (entry : Entry) (counts : Counts) : Type 0 where
  pub settled : Commit D
  pub settles : IsSettledFrom state old settled
  pub staged : Commit D
  pub stages : HasStagedRun state request template began told spans settled staged entry counts
  pub seals : IsSealedFrom state entry staged gate

-- and was whole: the gate was opened, and the outputs were written
pub record IsCommitted {D : Type 0} (state : D → DiskState) (request : Request) (template : Sections) (began told : Option Folder) (spans : List Span) (old new : Commit D) (counts : Counts) : Type 0 where
  pub entry : Entry
  pub gate : Commit D
  pub comes : ComesToGate state request template began told spans old gate entry counts
  pub opens : IsOpenedFrom state gate new
  pub done : (entries : List Entry) (before after : Files) → Sealed state gate entry entries before after → Settled state new (entries ++ entry ∷ []) after
  pub finished : IsFinishedFrom state gate

-- a damage that a run is told behind its gate is one of the frames
abbrev pub StopsAtFrames : {D : Type 0} → (D → DiskState) → Commit D → RunStop → Type 0
StopsAtFrames state gate (R.Subquery fault) = ⊤
StopsAtFrames state gate (R.Refused fault) = ⊤
StopsAtFrames state gate (R.BeforeGate fault) = ⊤
StopsAtFrames state gate (R.FromGate fault) = IsDamageFrom state gate fault

-- it stopped at its gate or behind it, where no damage is found if the entry was sealed
pub record StopsAtGate {D : Type 0} (state : D → DiskState) (request : Request) (template : Sections) (began told : Option Folder) (spans : List Span) (old new : Commit D) (stop : RunStop) : Type 0 where
  pub entry : Entry
  pub counts : Counts
  pub gate : Commit D
  pub comes : ComesToGate state request template began told spans old gate entry counts
  pub opens : IsOpenedFrom state gate new
  pub undamaged : IsDamagedStop stop → (entries : List Entry) (before after : Files) → Sealed state gate entry entries before after → ⊥
  pub damage : StopsAtFrames state gate stop
