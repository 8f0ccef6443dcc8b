-- A run that was carried out up to its gate, in the words of the crates that did so.
use Rattle.std.specs.Prelude.{◌≡◌, ℕ, true, List, map, Option}
use Rattle.lp_model.specs.Outside.{Folder, Told}
use Rattle.disk_model.specs.Disk.{DiskState}
use Rattle.lp_outside.specs.declared.stage.Mark.{Mark}
use Rattle.run_entry.specs.Executed.{IsExecuted}
use Rattle.run_entry.specs.Formats.{lines_in, log_format}
use Rattle.run_entry.specs.Outputs.{asked_in}
use Rattle.log_reading.specs.Page.{IsWithin}
use Rattle.log_reading.specs.Spans.{AreKept, took_of}
use Rattle.log_reading.specs.declared.span.Span.{Span}
use Rattle.log_reading.specs.declared.span.Took.{Took}
use Rattle.query_run.specs.declared.executing.Counts.{Counts}
use Rattle.row_output.specs.Rows.{Holds}
use Rattle.text_output.specs.Output.{kind_of}
use Rattle.text_output.specs.declared.target.Output.{Output}
use Rattle.tpl_output.specs.Sections.{Sections}
use Rattle.commit.specs.declared.phases.Commit.{Commit}
use Rattle.commit.specs.Phases.{stage_state}
use Rattle.run_entry.specs.Entries.{Request}

-- Its rows stand in the stage, which was empty when it started.
pub record IsCarriedOut {D : Type 0} (state : D → DiskState) (ended : Commit D → List ℕ → ℕ → Mark → Type 0) (request : Request) (template : Sections) (told : Option Folder) (spans : List Span) (started now : Commit D) (took : List Took) (outputs : List Output) (counts : Counts) : Type 0 where
  pub executed : IsExecuted (log_format request.spec request.q) true told (λ asked rows. Holds (kind_of (stage_state state) ended) asked started rows outputs now) (asked_in request.spec template request.moment request.q spans) request.spec request.moment request.q spans counts
  pub took_is : Told told (λ folder. AreKept (lines_in (log_format request.spec request.q)) true spans folder → took ≡ map (took_of (lines_in (log_format request.spec request.q)) true folder) spans)
  pub within : IsWithin request.spec.errors counts.bad
