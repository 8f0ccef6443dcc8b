-- What the run of a plan over a known table says of a fault that comes in its turn.
use Rattle.std.specs.Prelude.{◌≡◌, ◌⊎◌, ℕ, Bool, List, [], Option, Some}
use Rattle.lp_model.specs.Outside.{Folder}
use Rattle.log_reading.specs.Page.{IsWithin}
use Rattle.log_reading.specs.Spans.{BadLine}
use Rattle.log_reading.specs.UpTo.{IsNextBad, UpTo, bad_up_to, found_up_to}
use Rattle.log_reading.specs.declared.span.Span.{Span}
use Rattle.input_tables.specs.declared.format.TableFormat.{TableFormat}
use Rattle.input_tables.specs.Tables.{lines_of}
use Rattle.row_output.specs.Asked.{Asked}
use Rattle.row_output.specs.Rows.{IsRefused}
use Rattle.row_output.specs.declared.fault.Refused.{Refused}
use Rattle.execution.specs.InTurn.{IsEarly}
use Rattle.execution.specs.Plans.{PlannedQuery, table_rows}

-- an output of the rows of some first lines is refused, among which no more are bad than may be; these are all, where rows wait for the last
pub record UnplacedByPlan (format : TableFormat) (waits : Bool) (asked : Asked) (plan : PlannedQuery) (most_bad : Option ℕ) (spans : List Span) (why : Refused) (folder : Folder) : Type 0 where
  pub up : UpTo waits folder spans
  pub refused : IsRefused asked (table_rows format plan (found_up_to (lines_of format) waits folder spans up)) why
  pub within : IsWithin most_bad (bad_up_to (lines_of format) waits folder spans up)
  pub early : IsEarly plan asked why ⊎ (up.rest ≡ [])

-- behind some first lines comes this bad line, which is one too many, and no output of their rows is refused that may be before the last line is read
pub record BadByPlan (format : TableFormat) (waits : Bool) (asked : Asked) (plan : PlannedQuery) (most_bad : Option ℕ) (spans : List Span) (line : BadLine) (folder : Folder) : Type 0 where
  pub up : UpTo waits folder spans
  pub next : IsNextBad (lines_of format) waits folder up.rest up.lines line
  pub most : most_bad ≡ Some (bad_up_to (lines_of format) waits folder spans up)
  pub placed : (why : Refused) → IsEarly plan asked why → IsRefused asked (table_rows format plan (found_up_to (lines_of format) waits folder spans up)) why → ⊥
