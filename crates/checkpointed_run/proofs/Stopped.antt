-- How a run was stopped, from what its calls tell: it hadn't begun, or it came to its gate.
use Rattle.std.proofs.Common.{◌≡◌, ℕ, List, Option, Err, refl, sym, ap, subst}
use Rattle.std.specs.Result.{IsErrOf}
use Rattle.commit.specs.Outputs.{BreaksOutputs}
use Rattle.commit.specs.Phases.{disk_of, ledger_of, stage_of, ShowsEntry}
use Rattle.commit.specs.Redo.{frames_in}
use Rattle.commit.specs.declared.phases.Commit.{Commit}
use Rattle.commit.specs.declared.phases.CommitFiles.{CommitFiles}
use Rattle.disk_model.specs.Disk.{DiskState}
use Rattle.ledger.specs.Reader.{Rests}
use Rattle.ledger.specs.declared.refused.LedgerRefused.{LedgerRefused}
use Rattle.ledger.specs.declared.refused.LedgerRefused.TheVariants as C
use Rattle.ledger.specs.declared.refused.Part2.{Part2}
use Rattle.ledger.specs.declared.refused.Part2.TheVariants.{Stage}
use Rattle.ledger_model.specs.Entries.{Entry}
use Rattle.log_reading.specs.declared.span.Span.{Span}
use Rattle.lp_model.specs.Outside.{Folder}
use Rattle.recovery_model.specs.Recovered.{AreApart}
use Rattle.run_entry.specs.Entries.{Request}
use Rattle.run_model.specs.Logs.{Rotation}
use Rattle.tpl_output.specs.Sections.{Sections}
use Rattle.checkpointed_run.specs.Phases.{IsDamageFrom, IsOpenFrom}
use Rattle.checkpointed_run.specs.Refusals.{IsNotBegun, IsWithoutCounts, StopsBehind}
use Rattle.checkpointed_run.specs.Runs.{RunsOver}
use Rattle.checkpointed_run.specs.Stops.{IsFromGate}
use Rattle.checkpointed_run.specs.declared.over.LedgerStop.{LedgerStop}
use Rattle.checkpointed_run.specs.declared.over.LedgerStop.TheVariants as L
use Rattle.checkpointed_run.specs.declared.running.RunStop.{RunStop}

-- a run that hadn't begun has no counts
pub without_counts : {D : Type 0} (state : D → DiskState) (disk : DiskState) (ledger stage : List ℕ) (rotation : Rotation) (input : List ℕ) (texts : List (List ℕ)) (request : Request) (template : Sections) (before now : Option Folder) (stop : LedgerStop)
    → IsNotBegun disk ledger rotation input texts before now stop → IsWithoutCounts state disk ledger stage rotation input texts request template before now stop
without_counts state disk ledger stage rotation input texts request template before now (L.Ledger fault) is = is
without_counts state disk ledger stage rotation input texts request template before now (L.Logs fault) is = is
without_counts state disk ledger stage rotation input texts request template before now (L.Clash name) is = absurd is
without_counts state disk ledger stage rotation input texts request template before now (L.Run stop) is = absurd is
without_counts state disk ledger stage rotation input texts request template before now L.Memory is = is

-- a damage that is told behind an open gate breaks there
pub broken_from : {D : Type 0} {T : Type 0} (state : D → DiskState) (gate opened : Commit D) → IsOpenFrom state gate opened → (fault : LedgerRefused)
    → ((part : Part2) (p : ℕ) → IsErrOf {T = T} {E = LedgerRefused} (Err fault) (C.LedgerFault part p) → (told : Entry) → ShowsEntry state opened told → AreApart (ledger_of opened) (stage_of opened) told.outputs
    → (part ≡ Stage) × BreaksOutputs (frames_in (disk_of state opened) (stage_of opened) told.staged) told.outputs p) → IsDamageFrom state gate fault
broken_from state gate opened opens C.DiskFault breaks = tt
broken_from state gate opened opens (C.LedgerFault part place) breaks = record { opened = opened; opens = opens; breaks = breaks part place refl }

-- a run over what reads left of a disk came to its gate
pub stops_behind : {D : Type 0} (state : D → DiskState) (request : Request) (template : Sections) (began told : Option Folder) (spans : List Span) (files : CommitFiles) (old mid new : D) (stop : RunStop) → Rests (state old) (state mid)
    → RunsOver state request template began told spans files mid new (Err stop) → IsFromGate stop → StopsBehind state (state old) files.ledger files.stage request template began told spans stop
stops_behind state request template began told spans files old mid new stop rests runs from = record {
  first = runs.first;
  last = runs.last;
  ledger_is = ap (λ (f : CommitFiles). f.ledger) runs.files_are;
  stage_is = ap (λ (f : CommitFiles). f.stage) runs.files_are;
  rests = subst (λ (d : DiskState). Rests (state old) d) (sym (ap state runs.old_is)) rests;
  stops = runs.behind from;
}
