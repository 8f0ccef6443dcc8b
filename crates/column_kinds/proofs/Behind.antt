-- What is known behind spans is what they tell.
use Rattle.std.proofs.Common.{◌≡◌, ℕ, suc, ◌+◌, Bool, List, [], ◌∷◌, ◌++◌, length, drop, Option, Some, None, refl, sym, ◌∙◌, ap, ap₂, subst, arith, append_assoc}
use Rattle.std.proofs.lemmas.List.{append-nil}
use Rattle.lp_model.specs.Outside.{Folder}
use Rattle.lp_model.specs.Lines.{lines_to_come}
use Rattle.lp_model.specs.Reading.{Columns, Format, columns_behind, lines_before, records_of, standing_at, Standing}
use Rattle.lp_model.specs.Following.{IsLineEnd}
use Rattle.lp_model.proofs.Following.{records_of-following}
use Rattle.lp_model.proofs.Ordered.{lines_between_end}
use Rattle.log_reading.specs.Found.{Found, found_of}
use Rattle.log_reading.specs.declared.span.Span.{Span}
use Rattle.log_reading.specs.Spans.{AreKept, IsKept, cut_of, span_found, spans_found}
use Rattle.log_reading.proofs.Ending.{standing_at_cut}
use Rattle.column_kinds.specs.declared.kept.FirstLog.{FirstLog}
use Rattle.column_kinds.specs.Past.{Past, first_seen, log_with, nothing, or_first}
use Rattle.column_kinds.specs.Spans.{first_log, past_behind, past_behind_span, past_of, span_first}
use Rattle.column_kinds.proofs.SetsOnce.{SetsOnce, first_told}

-- the log that a span's first record tells is the one that its columns tell
bytes_told : (format : Format) → SetsOnce format → (identity bytes : List ℕ) (waits : Bool) (place : ℕ) → IsLineEnd bytes place
    → or_first (first_seen None (found_of identity (records_of format bytes waits place (length bytes)))) (log_with identity (standing_at format bytes waits (length bytes)).columns)
    ≡ log_with identity (standing_at format bytes waits (length bytes)).columns
bytes_told format sets identity bytes waits place is_end =
    let before = lines_before bytes waits place in
    let lines = lines_to_come waits (length before + 1) place (drop place bytes) in
    let columns : columns_behind format (before ++ lines) ≡ (standing_at format bytes waits (length bytes)).columns =
    ap (λ t. columns_behind format (before ++ t)) (sym (lines_between_end bytes waits place is_end)) ∙ ap (λ (s : Standing). s.columns) (standing_at_cut format bytes waits place is_end) in
    let Is : List Found → Option Columns → Type 0 = λ founds c. or_first (first_seen None founds) (log_with identity c) ≡ log_with identity c in
    subst (λ (c : Option Columns). Is (found_of identity (records_of format bytes waits place (length bytes))) c) columns
    (subst (λ (founds : List Found). Is founds (columns_behind format (before ++ lines))) (ap (found_of identity) (sym (records_of-following format bytes waits place is_end))) (first_told format sets identity before lines))

or_first-told : (first : Option FirstLog) (founds : List Found) (log : Option FirstLog) → or_first (first_seen None founds) log ≡ log → or_first (first_seen first founds) log ≡ or_first first log
or_first-told (Some known) founds log told = refl
or_first-told None founds log told = told

or_first-assoc : (a b c : Option FirstLog) → or_first (or_first a b) c ≡ or_first a (or_first b c)
or_first-assoc (Some log) b c = refl
or_first-assoc None b c = refl

or_first-none : (a : Option FirstLog) → or_first a None ≡ a
or_first-none (Some log) = refl
or_first-none None = refl

abbrev joined : Format → Bool → Folder → Past → List Span → Past
joined format waits folder past spans = record { first = or_first past.first (first_log format waits folder spans); founds = past.founds ++ spans_found format waits folder spans }

abbrev made : Option FirstLog → List Found → Past
made first founds = record { first = first; founds = founds }

one_behind : (format : Format) → SetsOnce format → (waits : Bool) (folder : Folder) (past : Past) (span : Span) → IsKept format waits (cut_of folder span) span
    → past_behind_span format waits folder past span ≡ record { first = or_first past.first (span_first format waits folder span); founds = past.founds ++ span_found format waits folder span }
one_behind format sets waits folder past span kept =
    ap (λ (first : Option FirstLog). made first (past.founds ++ span_found format waits folder span))
    (or_first-told past.first (span_found format waits folder span) (span_first format waits folder span) (bytes_told format sets span.identity (cut_of folder span) waits span.from kept.at_end))

behind_joined : (format : Format) → SetsOnce format → (waits : Bool) (folder : Folder) (past : Past) (spans : List Span) → AreKept format waits spans folder → past_behind format waits folder past spans ≡ joined format waits folder past spans
behind_joined format sets waits folder past [] kept = ap₂ made (sym (or_first-none past.first)) (sym (append-nil past.founds))
behind_joined format sets waits folder past (span ∷ spans) kept =
    let here = one_behind format sets waits folder past span (kept 0 span (omega arith) refl) in
    ap (λ (p : Past). past_behind format waits folder p spans) here
    ∙ (behind_joined format sets waits folder (made (or_first past.first (span_first format waits folder span)) (past.founds ++ span_found format waits folder span)) spans (λ k s lt is. kept (suc k) s (omega arith) is)
    ∙ ap₂ made (or_first-assoc past.first (span_first format waits folder span) (first_log format waits folder spans)) (append_assoc past.founds (span_found format waits folder span) (spans_found format waits folder spans)))

-- behind all spans of a run
pub behind_all : (format : Format) → SetsOnce format → (waits : Bool) (folder : Folder) (spans : List Span) → AreKept format waits spans folder
    → past_behind format waits folder nothing spans ≡ past_of format waits folder spans
behind_all format sets waits folder spans kept = behind_joined format sets waits folder nothing spans kept

-- the records behind spans are those before and those of the spans
pub behind_founds : (format : Format) (waits : Bool) (folder : Folder) (past : Past) (spans : List Span) → (past_behind format waits folder past spans).founds ≡ past.founds ++ spans_found format waits folder spans
behind_founds format waits folder past [] = sym (append-nil past.founds)
behind_founds format waits folder past (span ∷ spans) =
    behind_founds format waits folder (past_behind_span format waits folder past span) spans ∙ append_assoc past.founds (span_found format waits folder span) (spans_found format waits folder spans)
