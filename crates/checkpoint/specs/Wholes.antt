-- Logs that are read whole.
use Rattle.std.specs.Prelude.{List, map, None}
use Rattle.log_listing.specs.declared.lengths.NameLength.{NameLength}
use Rattle.log_reading.specs.declared.span.Span.{Span}

-- a log from its start up to its cut
abbrev pub whole_span : NameLength → Span
whole_span log = record { name = log.name; identity = log.name; from = 0; listed = log.length; standing = record { lines = 0; columns = None } }

abbrev pub whole_spans : List NameLength → List Span
whole_spans logs = map whole_span logs
