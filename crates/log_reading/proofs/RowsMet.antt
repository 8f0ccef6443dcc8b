-- The rows of all that a run meets are those of its spans.
use Rattle.std.proofs.Common.{◌≡◌, ℕ, Bool, List, [], ◌∷◌, ◌++◌, length, ap, ap₂, ◌∙◌, refl}
use Rattle.std.proofs.lemmas.List.{append-nil}
use Rattle.std.proofs.lemmas.List.Elements.{filter_map-append}
use Rattle.lp_model.specs.Outside.{Folder}
use Rattle.lp_model.specs.Reading.{Format, Record, records_of, standing_at}
use Rattle.log_reading.specs.Found.{Found, Met, found_of, met_of, row_in, rows_met, log_ended}
use Rattle.log_reading.specs.Spans.{cut_of, span_found, span_rows, span_met, spans_found, spans_met}
use Rattle.log_reading.specs.declared.span.Span.{Span}

pub rows_met-append : (xs ys : List Met) → rows_met (xs ++ ys) ≡ rows_met xs ++ rows_met ys
rows_met-append xs ys = filter_map-append row_in xs ys

pub rows_met_of : (identity : List ℕ) (records : List Record) → rows_met (met_of identity records) ≡ found_of identity records
rows_met_of identity [] = refl
rows_met_of identity (row ∷ records) =
    let found : Found = record { identity = identity; row = row } in
    ap (λ t. found ∷ t) (rows_met_of identity records)

pub rows_met_span : (format : Format) (waits : Bool) (folder : Folder) (span : Span) → rows_met (span_met format waits folder span) ≡ span_found format waits folder span
rows_met_span format waits folder span =
    let bytes = cut_of folder span in
    let rows = span_rows format waits folder span in
    let end = (standing_at format bytes waits (length bytes)).columns in
    rows_met-append rows (log_ended span.identity end ∷ []) ∙ (append-nil (rows_met rows) ∙ rows_met_of span.identity (records_of format bytes waits span.from (length bytes)))

pub rows_met_spans : (format : Format) (waits : Bool) (folder : Folder) (spans : List Span) → rows_met (spans_met format waits folder spans) ≡ spans_found format waits folder spans
rows_met_spans format waits folder [] = refl
rows_met_spans format waits folder (span ∷ spans) =
    rows_met-append (span_met format waits folder span) (spans_met format waits folder spans)
    ∙ ap₂ (λ xs ys. xs ++ ys) (rows_met_span format waits folder span) (rows_met_spans format waits folder spans)
