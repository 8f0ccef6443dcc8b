-- What a run has taken of all that it met in spans, as what is known behind these spans.
use Rattle.std.proofs.Common.{◌≡◌, ℕ, Bool, List, [], ◌∷◌, length, Option, Some, None, ap, sym, ◌∙◌, refl, subst}
use Rattle.lp_model.specs.Outside.{Folder, Told}
use Rattle.lp_model.specs.Reading.{Format, Record, records_of, standing_at}
use Rattle.log_reading.specs.Found.{Found, found_of, met_of, log_ended}
use Rattle.log_reading.specs.declared.page.Page.{Page}
use Rattle.log_reading.specs.declared.span.Span.{Span}
use Rattle.log_reading.specs.Spans.{AreKept, TakesSpans, cut_of, span_met, span_rows, spans_met}
use Rattle.column_kinds.specs.Past.{Past, Later, noted, past_met, past_with}
use Rattle.column_kinds.specs.Spans.{past_behind, past_behind_span}
use Rattle.column_kinds.specs.Sampling.{SampleKind, Holds}
use Rattle.column_kinds.specs.SpansTold.{SamplesSpans, HaltsIn, spans_told}
use Rattle.column_kinds.specs.declared.phase.Sampled.{Sampled}
use Rattle.column_kinds.specs.Laws.{Samples, Halts, past_met-append, past_with-append, past_with-none}

-- records that are met are records
met_records : (past : Past) (identity : List ℕ) (records : List Record) → past_met past (met_of identity records) ≡ past_with past (found_of identity records)
met_records past identity [] = sym (past_with-none past)
met_records past identity (row ∷ records) =
    let found : Found = record { identity = identity; row = row } in
    met_records (past_with past (found ∷ [])) identity records ∙ past_with-append past (found ∷ []) (found_of identity records)

met_span : (format : Format) (waits : Bool) (folder : Folder) (past : Past) (span : Span) → past_met past (span_met format waits folder span) ≡ past_behind_span format waits folder past span
met_span format waits folder past span =
    let bytes = cut_of folder span in
    let end = (standing_at format bytes waits (length bytes)).columns in
    sym (past_met-append past (span_rows format waits folder span) (log_ended span.identity end ∷ []))
    ∙ ap (λ (p : Past). noted p span.identity end) (met_records past span.identity (records_of format bytes waits span.from (length bytes)))

-- all that is met in spans is what is known behind them
pub met_spans : (format : Format) (waits : Bool) (folder : Folder) (past : Past) (spans : List Span) → past_met past (spans_met format waits folder spans) ≡ past_behind format waits folder past spans
met_spans format waits folder past [] = refl
met_spans format waits folder past (span ∷ spans) =
    sym (past_met-append past (span_met format waits folder span) (spans_met format waits folder spans))
    ∙ (ap (λ (p : Past). past_met p (spans_met format waits folder spans)) (met_span format waits folder past span)
    ∙ met_spans format waits folder (past_behind_span format waits folder past span) spans)

pub samples_spans : {M T O : Type 0} (kind : SampleKind M T O) (format : Format) (waits : Bool) (told : Option Folder) (spans : List Span) (first last : Page (Sampled M T)) (x y : O)
    → Told told (λ folder. AreKept format waits spans folder → TakesSpans (λ (old : Sampled M T) (before : O) mets new now. Samples kind old before mets new now) format waits folder spans first last x y)
    → Told told (λ folder. AreKept format waits spans folder → SamplesSpans kind format waits folder spans first last x y)
samples_spans kind format waits None spans first last x y taken = tt
samples_spans kind format waits (Some folder) spans first last x y taken = λ kept.
    let all = taken kept in
    record {
      along = λ rules start past holds.
          let Of : Past → Type 0 = λ p. Holds kind rules start p last.taker y in
          subst Of (met_spans format waits folder past spans) (all.done.along rules start past holds);
      rows = all.rows;
      bad = all.bad;
    }

pub halts_spans : {M T O : Type 0} (kind : SampleKind M T O) (format : Format) (waits : Bool) (told : Option Folder) (spans : List Span) (a b : Sampled M T) (x y : O)
    → Told told (λ folder. AreKept format waits spans folder → Halts kind a x (spans_met format waits folder spans) b y)
    → Told told (λ folder. AreKept format waits spans folder → HaltsIn kind (spans_told format waits folder spans) a b x y)
halts_spans kind format waits None spans a b x y halted = tt
halts_spans kind format waits (Some folder) spans a b x y halted = λ kept. record {
  within = λ rules start past holds later follows.
      let Of : Past → Type 0 = λ p. Later p later in
      (halted kept).within rules start past holds later (subst Of (sym (met_spans format waits folder past spans)) follows);
}
