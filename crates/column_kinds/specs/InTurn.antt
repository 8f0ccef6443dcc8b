-- Which fault comes first over columns that the logs tell: the sample comes before the plan, the plan before the rows, and a bad line that is one too many where it stands.
use Rattle.std.specs.Prelude.{◌≡◌, ◌⊎◌, ◌+◌, ℕ, Bool, List, [], Option, Some}
use Rattle.lp_model.specs.Outside.{Folder}
use Rattle.lp_model.specs.Reading.{Format}
use Rattle.log_reading.specs.Found.{Found}
use Rattle.log_reading.specs.Page.{IsWithin}
use Rattle.log_reading.specs.Spans.{BadLine}
use Rattle.log_reading.specs.UpTo.{IsNextBad, UpTo, bad_up_to, found_up_to}
use Rattle.log_reading.specs.declared.span.Span.{Span}
use Rattle.column_kinds.specs.Past.{AreEnough}

-- Of some first lines, which have the whole sample or are all, this is so; and with so many bad lines before, no more are bad than may be.
pub record BehindSample (limit : ℕ) (most_bad : Option ℕ) (bad : ℕ) (format : Format) (waits : Bool) (folder : Folder) (spans : List Span) (So : UpTo waits folder spans → Type 0) : Type 0 where
  pub up : UpTo waits folder spans
  pub sample : AreEnough limit (found_up_to format waits folder spans up) ⊎ (up.rest ≡ [])
  pub within : IsWithin most_bad (bad + bad_up_to format waits folder spans up)
  pub so : So up

-- Behind some first lines comes this bad line, which is one too many, with so many before: within the sample, and then the first is so, or behind it, and then the second of the records of these lines.
pub record BadInTurn (limit : ℕ) (most_bad : Option ℕ) (bad : ℕ) (format : Format) (waits : Bool) (folder : Folder) (spans : List Span) (line : BadLine) (Within : Type 0) (Behind : List Found → Type 0) : Type 0 where
  pub up : UpTo waits folder spans
  pub next : IsNextBad format waits folder up.rest up.lines line
  pub most : most_bad ≡ Some (bad + bad_up_to format waits folder spans up)
  pub within : (AreEnough limit (found_up_to format waits folder spans up) → ⊥) → Within
  pub behind : AreEnough limit (found_up_to format waits folder spans up) → Behind (found_up_to format waits folder spans up)
