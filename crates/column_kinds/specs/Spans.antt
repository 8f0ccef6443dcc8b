-- What the spans of a run tell.
use Rattle.std.specs.Prelude.{Bool, List, [], ◌∷◌, length, Option, None}
use Rattle.lp_model.specs.Outside.{Folder}
use Rattle.lp_model.specs.Reading.{Format, standing_at}
use Rattle.log_reading.specs.declared.span.Span.{Span}
use Rattle.log_reading.specs.Spans.{cut_of, span_found, spans_found}
use Rattle.column_kinds.specs.declared.kept.FirstLog.{FirstLog}
use Rattle.column_kinds.specs.Past.{Past, log_with, noted, or_first, past_with}

-- the log of a span, if it has columns at its cut
abbrev pub span_first : Format → Bool → Folder → Span → Option FirstLog
span_first format waits folder span = let bytes = cut_of folder span in log_with span.identity (standing_at format bytes waits (length bytes)).columns

-- the first log of spans that has columns
abbrev pub first_log : Format → Bool → Folder → List Span → Option FirstLog
first_log format waits folder [] = None
first_log format waits folder (span ∷ spans) = or_first (span_first format waits folder span) (first_log format waits folder spans)

-- what the records of spans, and the columns of their logs, tell
abbrev pub past_of : Format → Bool → Folder → List Span → Past
past_of format waits folder spans = record { first = first_log format waits folder spans; founds = spans_found format waits folder spans }

-- what is known behind a span: its records, and then the columns of its log
abbrev pub past_behind_span : Format → Bool → Folder → Past → Span → Past
past_behind_span format waits folder past span =
    let bytes = cut_of folder span in noted (past_with past (span_found format waits folder span)) span.identity (standing_at format bytes waits (length bytes)).columns

-- what is known behind spans
abbrev pub past_behind : Format → Bool → Folder → Past → List Span → Past
past_behind format waits folder past [] = past
past_behind format waits folder past (span ∷ spans) = past_behind format waits folder (past_behind_span format waits folder past span) spans
