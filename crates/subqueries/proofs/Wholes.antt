-- The logs that FROM names list, as spans.
use Rattle.std.proofs.Common.{◌≡◌, ℕ, ◌<◌, ◌≤◌, Bool, List, length, get_or, map, All, Option, Some, None, refl, sym, subst, arith}
use Rattle.std.proofs.lemmas.List.Elements.{All-map, All-weaker}
use Rattle.grammar.specs.Trees as model
use Rattle.lp_model.specs.Outside.{Folder, OnlyGrow, Told, bytes_in}
use Rattle.lp_model.proofs.Pieces.{length_grown}
use Rattle.lp_time.specs.declared.piece.Piece.{Piece}
use Rattle.log_listing.specs.declared.lengths.NameLength.{NameLength}
use Rattle.log_listing.specs.Lengths.{IsLength}
use Rattle.log_listing.specs.Lengths.{names_in as listed_names}
use Rattle.log_listing.proofs.Grown.{lists_grown}
use Rattle.log_listing.proofs.LengthLemmas.{length_later}
use Rattle.log_reading.specs.declared.span.Span.{Span}
use Rattle.log_reading.specs.Spans.{AllSpans, IsKept, IsSpan, AreKept, cut_of}
use Rattle.log_reading.proofs.Starting.{kept_from_start}
use Rattle.checkpoint.specs.Wholes.{whole_span, whole_spans}
use Rattle.checkpoint.proofs.Spanning.{are_spans, told_there}
use Rattle.execution.specs.Executed.{OnTable, told_table}
use Rattle.execution.specs.Formats.{lines_in}
use Rattle.execution.specs.declared.formats.LogFormat.{LogFormat}
use Rattle.execution.specs.declared.formats.LogFormat.TheVariants as F
use Rattle.execution.proofs.FormatLemmas.{lines_start}
use Rattle.input_tables.specs.Tables.{table_of}
use Rattle.query_text.specs.Stdin.{names_in}
use Rattle.query_tree.specs.Views.{placed_all, query_of}
use Rattle.query_tree.specs.declared.query.Query.{Query, Query', out-Query}
use Rattle.query_types.specs.declared.table.TableColumns.{TableColumns}
use Rattle.subqueries.specs.Listing.{AreListed, OnWhole, from_names}

pub names_behind : (q : Query) → map (λ (name : model.Placed). name.text) (placed_all (out-Query q).names) ≡ map (λ (name : model.Placed). name.text) (names_in (query_of q))
unfolding out-Query denote.Hole.Carrier.out
names_behind (Query' top distinct star items aliases into names condition keys rollup having order descending subqueries) = refl

pub spans_of : (before now : Option Folder) (logs : List NameLength) (spans : List Span) → spans ≡ whole_spans logs → All (IsLength before now) logs → AllSpans spans IsSpan
spans_of before now logs spans wholes lengths = subst (λ (s : List Span). AllSpans s IsSpan) (sym wholes) (are_spans logs (λ k d here. (lengths k d here).bounded))

most_told : (now : Option Folder) (logs : List NameLength) → ((k : ℕ) (d : NameLength) → k < length logs → Told now (λ files. (get_or logs k d).length ≤ length (bytes_in files (get_or logs k d).name)))
    → Told now (λ files. All (λ (log : NameLength). log.length ≤ length (bytes_in files log.name)) logs)
most_told None logs most = tt
most_told (Some files) logs most = most

pub there_of : (before now : Option Folder) (logs : List NameLength) (spans : List Span) → spans ≡ whole_spans logs → All (IsLength before now) logs
    → Told now (λ files. AllSpans spans (λ span. span.listed ≤ length (bytes_in files span.name)))
there_of before now logs spans wholes lengths =
    subst (λ (s : List Span). Told now (λ files. AllSpans s (λ span. span.listed ≤ length (bytes_in files span.name)))) (sym wholes)
    (told_there now logs (most_told now logs (λ k d here. (lengths k d here).most)))

-- whole logs begin as they were kept
kept_of : (format : LogFormat) (waits : Bool) (folder : Folder) (logs : List NameLength) (spans : List Span) → spans ≡ whole_spans logs → AreKept (lines_in format) waits spans folder
kept_of format waits folder logs spans wholes =
    let Is : Span → Type 0 = λ span. IsKept (lines_in format) waits (cut_of folder span) span in
    let each : All (λ (log : NameLength). Is (whole_span log)) logs = λ k d here. kept_from_start (lines_in format) waits (cut_of folder (whole_span (get_or logs k d))) (whole_span (get_or logs k d)) (lines_start format) refl refl in
    let all : AllSpans (whole_spans logs) Is = λ k s here is. subst Is (sym is) (All-map Is whole_span logs each k s here) in
    subst (λ (s : List Span). AreKept (lines_in format) waits s folder) (sym wholes) all

-- what holds of spans that begin as their logs were kept holds of whole logs
pub whole_told : (told : Option Folder) (format : LogFormat) (waits : Bool) (logs : List NameLength) (spans : List Span) (P : List Span → Folder → Type 0) → spans ≡ whole_spans logs
    → Told told (λ folder. AreKept (lines_in format) waits spans folder → P spans folder) → Told told (P (whole_spans logs))
whole_told None format waits logs spans P wholes h = tt
whole_told (Some folder) format waits logs spans P wholes h =
    subst (λ (s : List Span). P s folder) wholes (h (kept_of format waits folder logs spans wholes))

-- the same of the table of a run
pub on_whole : (told : Option Folder) (format : LogFormat) (waits : Bool) (pattern : List Piece) (logs : List NameLength) (spans : List Span) (P Q : TableColumns → Type 0) → spans ≡ whole_spans logs
    → ((table : TableColumns) → P table → Q table) → OnTable format waits pattern told spans P → OnWhole format waits pattern told logs Q
on_whole told (F.Tabled format) waits pattern logs spans P Q wholes so h = so (table_of format) h
on_whole None (F.Sampled options limit) waits pattern logs spans P Q wholes so h = tt
on_whole (Some folder) (F.Sampled options limit) waits pattern logs spans P Q wholes so h =
    subst (λ (s : List Span). Q (told_table options waits limit pattern folder s)) wholes
    (so (told_table options waits limit pattern folder spans) (h (kept_of (F.Sampled options limit) waits folder logs spans wholes)))

least_earlier : (before mid : Option Folder) (log : NameLength) → OnlyGrow before mid → Told mid (λ files. length (bytes_in files log.name) ≤ log.length) → Told before (λ files. length (bytes_in files log.name) ≤ log.length)
least_earlier None mid log grow least = tt
least_earlier (Some x) None log grow least = absurd grow
least_earlier (Some x) (Some y) log grow least =
    let more = length_grown x y log.name (length (bytes_in x log.name)) grow (omega arith) in
    omega arith

length_earlier : (before mid now : Option Folder) → OnlyGrow before mid → (log : NameLength) → IsLength mid now log → IsLength before now log
length_earlier before mid now grow log is = record { least = least_earlier before mid log grow is.least; most = is.most; bounded = is.bounded }

-- listed logs stay so while they grow
pub listed_later : (before mid now : Option Folder) (q : model.Query) (logs : List NameLength) → OnlyGrow mid now → AreListed before mid q logs → AreListed before now q logs
listed_later before mid now q logs grow are = record {
  listed = lists_grown mid now (from_names q) (listed_names logs) grow are.listed;
  lengths = All-weaker (IsLength before mid) (IsLength before now) (length_later before mid now grow) logs are.lengths;
  few = are.few;
}

pub listed_earlier : (before mid now : Option Folder) (q : model.Query) (logs : List NameLength) → OnlyGrow before mid → AreListed mid now q logs → AreListed before now q logs
listed_earlier before mid now q logs grow are = record {
  listed = are.listed;
  lengths = All-weaker (IsLength mid now) (IsLength before now) (length_earlier before mid now grow) logs are.lengths;
  few = are.few;
}
