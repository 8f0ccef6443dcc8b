-- Which of two faults comes first: an output that is refused, or a bad line that is one too many.
use Rattle.std.specs.Prelude.{◌≡◌, ◌⊎◌, ◌+◌, ℕ, Bool, List, [], Option, Some}
use Rattle.lp_model.specs.Outside.{Folder}
use Rattle.lp_model.specs.Reading.{Format}
use Rattle.lp_values.specs.declared.value.Value.{Value}
use Rattle.log_reading.specs.Found.{Found}
use Rattle.log_reading.specs.Page.{IsWithin}
use Rattle.log_reading.specs.Spans.{BadLine}
use Rattle.log_reading.specs.UpTo.{IsNextBad, UpTo, bad_up_to, found_up_to}
use Rattle.log_reading.specs.declared.span.Span.{Span}
use Rattle.row_output.specs.Asked.{Asked}
use Rattle.row_output.specs.Rows.{IsRefused, IsRefusedEarly}
use Rattle.row_output.specs.declared.fault.Refused.{Refused}

-- An output of the rows of some first lines is refused, and with so many bad lines before no more are bad than may be; those lines are all, where rows wait for the last.
pub record RefusedInTurn (asked : Asked) (rows : List Found → List (List Value)) (most_bad : Option ℕ) (bad : ℕ) (format : Format) (waits : Bool) (folder : Folder) (spans : List Span) (why : Refused) : Type 0 where
  pub up : UpTo waits folder spans
  pub refused : IsRefused asked (rows (found_up_to format waits folder spans up)) why
  pub within : IsWithin most_bad (bad + bad_up_to format waits folder spans up)
  pub early : IsRefusedEarly asked why ⊎ (up.rest ≡ [])

-- Behind some first lines comes this bad line, which is one too many, with so many before; and no output of their rows is refused that may be before the last row is there.
pub record BadInTurn (asked : Asked) (rows : List Found → List (List Value)) (most_bad : Option ℕ) (bad : ℕ) (format : Format) (waits : Bool) (folder : Folder) (spans : List Span) (line : BadLine) : Type 0 where
  pub up : UpTo waits folder spans
  pub next : IsNextBad format waits folder up.rest up.lines line
  pub most : most_bad ≡ Some (bad + bad_up_to format waits folder spans up)
  pub placed : (why : Refused) → IsRefusedEarly asked why → IsRefused asked (rows (found_up_to format waits folder spans up)) why → ⊥
