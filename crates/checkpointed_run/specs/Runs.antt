-- A run over spans by the one commit that holds a disk, from the disk that it found to the one that it leaves.
use Rattle.std.specs.Prelude.{◌≡◌, List, Option, Result, IfOk, IfErr}
use Rattle.disk_model.specs.Disk.{DiskState}
use Rattle.log_reading.specs.declared.span.Span.{Span}
use Rattle.lp_model.specs.Outside.{Folder}
use Rattle.query_run.specs.declared.executing.Counts.{Counts}
use Rattle.tpl_output.specs.Sections.{Sections}
use Rattle.commit.specs.declared.phases.Commit.{Commit}
use Rattle.commit.specs.declared.phases.CommitFiles.{CommitFiles}
use Rattle.commit.specs.Phases.{SettlesHeld, Unsettled}
use Rattle.run_entry.specs.Entries.{Request}
use Rattle.checkpointed_run.specs.Committed.{IsCommitted, StopsAtGate}
use Rattle.checkpointed_run.specs.Stops.{IsBeforeGate, IsDamagedStop, IsFromGate}
use Rattle.checkpointed_run.specs.declared.running.RunStop.{RunStop}

-- it was whole, or stopped before its gate or from there on
pub record RunsOver {D : Type 0} (state : D → DiskState) (request : Request) (template : Sections) (began told : Option Folder) (spans : List Span) (files : CommitFiles) (old new : D) (result : Result Counts RunStop) : Type 0 where
  pub first : Commit D
  pub last : Commit D
  pub files_are : first.files ≡ files
  pub old_is : first.disk.now ≡ old
  pub new_is : new ≡ last.disk.now
  pub committed : IfOk result (IsCommitted state request template began told spans first last)
  pub before : IfErr result (λ stop. IsBeforeGate stop → Unsettled state first → SettlesHeld state first last)
  pub behind : IfErr result (λ stop. IsFromGate stop → StopsAtGate state request template began told spans first last stop)
  pub undamaged : IfErr result (λ stop. IsBeforeGate stop → IsDamagedStop stop → Unsettled state first → ⊥)
