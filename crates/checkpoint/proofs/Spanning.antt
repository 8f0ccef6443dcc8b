-- Whole logs as spans.
use Rattle.std.proofs.Common.{◌≡◌, ◌≤◌, ◌^◌, List, [], length, get_or, All, false, Option, Some, None, refl, sym, subst, arith}
use Rattle.std.proofs.lemmas.List.Elements.{All-map}
use Rattle.lp_model.specs.Outside.{Folder, Told, bytes_in}
use Rattle.lp_model.specs.Reading.{Format}
use Rattle.log_listing.specs.declared.lengths.NameLength.{NameLength}
use Rattle.log_reading.specs.declared.span.Span.{Span}
use Rattle.log_reading.specs.Spans.{AllSpans, IsSpan, IsKept, AreKept, cut_of}
use Rattle.log_reading.proofs.Starting.{kept_from_start}
use Rattle.checkpoint.specs.Wholes.{whole_span, whole_spans}

all_spans : (P : Span → Type 0) (logs : List NameLength) → All (λ (log : NameLength). P (whole_span log)) logs → AllSpans (whole_spans logs) P
all_spans P logs all = λ k s here is. subst P (sym is) (All-map P whole_span logs all k s here)

pub are_there : (folder : Folder) (logs : List NameLength) → All (λ (log : NameLength). log.length ≤ length (bytes_in folder log.name)) logs
    → AllSpans (whole_spans logs) (λ span. span.listed ≤ length (bytes_in folder span.name))
are_there folder logs all = all_spans (λ span. span.listed ≤ length (bytes_in folder span.name)) logs all

pub are_spans : (logs : List NameLength) → All (λ (log : NameLength). log.length ≤ 2 ^ 46) logs → AllSpans (whole_spans logs) IsSpan
are_spans logs all = all_spans IsSpan logs (λ k d here. record { start = omega arith; cut = all k d here; lines = omega arith })

pub are_kept : (format : Format) (folder : Folder) (logs : List NameLength) → format.columns_after [] ≡ None → AreKept format false (whole_spans logs) folder
are_kept format folder logs none = all_spans (λ span. IsKept format false (cut_of folder span) span) logs
    (λ k d here. kept_from_start format false (cut_of folder (whole_span (get_or logs k d))) (whole_span (get_or logs k d)) none refl refl)

pub told_there : (told : Option Folder) (logs : List NameLength) → Told told (λ folder. All (λ (log : NameLength). log.length ≤ length (bytes_in folder log.name)) logs)
    → Told told (λ folder. AllSpans (whole_spans logs) (λ span. span.listed ≤ length (bytes_in folder span.name)))
told_there None logs there = tt
told_there (Some folder) logs there = are_there folder logs there
