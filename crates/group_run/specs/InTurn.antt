-- A bad line that comes in its turn.
use Rattle.std.specs.Prelude.{◌≡◌, ℕ, Bool, List, Option, Some}
use Rattle.lp_model.specs.Outside.{Folder}
use Rattle.lp_model.specs.Reading.{Format}
use Rattle.log_reading.specs.Spans.{BadLine}
use Rattle.log_reading.specs.UpTo.{IsNextBad, UpTo, bad_up_to}
use Rattle.log_reading.specs.declared.span.Span.{Span}

-- behind some first lines comes this bad line, which is one too many
pub record IsReached (most_bad : Option ℕ) (format : Format) (waits : Bool) (folder : Folder) (spans : List Span) (line : BadLine) : Type 0 where
  pub up : UpTo waits folder spans
  pub next : IsNextBad format waits folder up.rest up.lines line
  pub most : most_bad ≡ Some (bad_up_to format waits folder spans up)
