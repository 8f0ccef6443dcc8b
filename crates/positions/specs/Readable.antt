-- Spans that may be read, whatever the entries of a ledger are.
use Rattle.std.specs.Prelude.{◌≤◌, List, length, Option}
use Rattle.std.specs.List.{AllByRecursion}
use Rattle.lp_model.specs.Outside.{Folder, Told, bytes_in}
use Rattle.log_reading.specs.Spans.{IsSpan}
use Rattle.log_reading.specs.declared.span.Span.{Span}

-- a span may be read, and its log reaches as far
pub record IsReadable (now : Option Folder) (span : Span) : Type 0 where
  pub is : IsSpan span
  pub there : Told now (λ folder. span.listed ≤ length (bytes_in folder span.name))

abbrev pub AreReadable : Option Folder → List Span → Type 0
AreReadable now spans = AllByRecursion (IsReadable now) spans

-- spans that may be read can still be read, and so can those that are added
abbrev pub StayReadable : Option Folder → Option Folder → List Span → List Span → Type 0
StayReadable before now old new = AreReadable before old → AreReadable now new
