-- A span that a run may read.
use Rattle.std.specs.Prelude.{◌≡◌, true}
use Rattle.lp_model.specs.Outside.{Folder, bytes_in}
use Rattle.lp_model.specs.Reading.{Format}
use Rattle.log_reading.specs.Spans.{IsKept, cut_of}
use Rattle.log_reading.specs.declared.span.Span.{Span}
use Rattle.run_model.specs.Logs.{Written}

-- a span begins as its log was kept, and its file holds all that was written to the log
pub record IsSound (format : Format) (written : Written) (folder : Folder) (span : Span) : Type 0 where
  pub is_kept : IsKept format true (cut_of folder span) span
  pub shows : bytes_in written span.identity ≡ bytes_in folder span.name
