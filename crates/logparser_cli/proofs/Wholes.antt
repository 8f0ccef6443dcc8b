-- The spans of the logs that FROM names list.
use Rattle.std.proofs.Common.{◌≡◌, ℕ, ◌<◌, ◌≤◌, List, length, get_or, All, Bool, true, false, Option, Some, None, refl, sym, subst, arith}
use Rattle.std.proofs.lemmas.List.Elements.{All-weaker}
use Rattle.grammar.specs.Trees as model
use Rattle.lp_model.specs.Outside.{Folder, OnlyGrow, Told, bytes_in}
use Rattle.lp_model.proofs.Pieces.{length_grown}
use Rattle.log_listing.specs.declared.fault.ListFault.{ListFault}
use Rattle.log_listing.specs.declared.fault.ListFault.TheVariants as L
use Rattle.log_listing.specs.declared.lengths.NameLength.{NameLength}
use Rattle.log_listing.specs.Lengths.{IsLength}
use Rattle.log_listing.specs.Lengths.{names_in as listed_names}
use Rattle.log_listing.specs.Listed.{IsListFault}
use Rattle.log_listing.proofs.Grown.{lists_grown}
use Rattle.log_listing.proofs.LengthLemmas.{length_later}
use Rattle.log_reading.specs.declared.span.Span.{Span}
use Rattle.log_reading.specs.Spans.{AllSpans, IsSpan, AreKept}
use Rattle.checkpoint.specs.Wholes.{whole_spans}
use Rattle.checkpoint.proofs.Spanning.{are_spans, are_kept, told_there}
use Rattle.checkpointed_command.specs.Executed.{OnTable, told_table}
use Rattle.checkpointed_command.specs.Formats.{lines_in}
use Rattle.checkpointed_command.specs.LogFormat.{LogFormat}
use Rattle.checkpointed_command.specs.LogFormat.TheVariants as F
use Rattle.checkpointed_command.proofs.FormatLemmas.{lines_start}
use Rattle.input_tables.specs.Tables.{table_of}
use Rattle.lp_time.specs.declared.piece.Piece.{Piece}
use Rattle.query_types.specs.declared.table.TableColumns.{TableColumns}
use Rattle.reports.specs.declared.status.Status.TheVariants.{LogsFault}
use Rattle.checkpointed_command.specs.Built.{reads_stdin}
use Rattle.query_text.specs.Stdin.{names_in}
use Rattle.standard_input.specs.Streams.{input_logs}
use Rattle.logparser_cli.specs.Logs.{AreListed, AreLogs, AreLogsOf, AreSpans, IsUnlisted, from_names, unlisted}
use Rattle.logparser_cli.specs.Whole.{OnWhole}

pub spans_of : (before now : Option Folder) (logs : List NameLength) (spans : List Span) → spans ≡ whole_spans logs → All (IsLength before now) logs → AllSpans spans IsSpan
spans_of before now logs spans wholes lengths = subst (λ (s : List Span). AllSpans s IsSpan) (sym wholes) (are_spans logs (λ k d here. (lengths k d here).bounded))

most_told : (now : Option Folder) (logs : List NameLength) → ((k : ℕ) (d : NameLength) → k < length logs → Told now (λ files. (get_or logs k d).length ≤ length (bytes_in files (get_or logs k d).name)))
    → Told now (λ files. All (λ (log : NameLength). log.length ≤ length (bytes_in files log.name)) logs)
most_told None logs most = tt
most_told (Some files) logs most = most

pub there_of : (before now : Option Folder) (logs : List NameLength) (spans : List Span) → spans ≡ whole_spans logs → All (IsLength before now) logs
    → Told now (λ files. AllSpans spans (λ span. span.listed ≤ length (bytes_in files span.name)))
there_of before now logs spans wholes lengths =
    subst (λ (s : List Span). Told now (λ files. AllSpans s (λ span. span.listed ≤ length (bytes_in files span.name)))) (sym wholes)
    (told_there now logs (most_told now logs (λ k d here. (lengths k d here).most)))

-- whole logs begin as they were kept
pub kept_of : (format : LogFormat) (folder : Folder) (logs : List NameLength) (spans : List Span) → spans ≡ whole_spans logs → AreKept (lines_in format) false spans folder
kept_of format folder logs spans wholes =
    subst (λ (s : List Span). AreKept (lines_in format) false s folder) (sym wholes) (are_kept (lines_in format) folder logs (lines_start format))

-- what holds of spans that begin as their logs were kept holds of whole logs
pub whole_told : (told : Option Folder) (format : LogFormat) (logs : List NameLength) (spans : List Span) (P : List Span → Folder → Type 0) → spans ≡ whole_spans logs
    → Told told (λ folder. AreKept (lines_in format) false spans folder → P spans folder) → Told told (P (whole_spans logs))
whole_told None format logs spans P wholes h = tt
whole_told (Some folder) format logs spans P wholes h =
    subst (λ (s : List Span). P s folder) wholes (h (kept_of format folder logs spans wholes))

-- the same of the table of a run
pub on_whole : (told : Option Folder) (format : LogFormat) (pattern : List Piece) (logs : List NameLength) (spans : List Span) (P Q : TableColumns → Type 0) → spans ≡ whole_spans logs
    → ((table : TableColumns) → P table → Q table) → OnTable format false pattern told spans P → OnWhole format pattern told logs Q
on_whole told (F.Tabled format) pattern logs spans P Q wholes so h = so (table_of format) h
on_whole None (F.Sampled options limit) pattern logs spans P Q wholes so h = tt
on_whole (Some folder) (F.Sampled options limit) pattern logs spans P Q wholes so h =
    subst (λ (s : List Span). Q (told_table options false limit pattern folder s)) wholes
    (so (told_table options false limit pattern folder spans) (h (kept_of (F.Sampled options limit) folder logs spans wholes)))

least_earlier : (before mid : Option Folder) (log : NameLength) → OnlyGrow before mid → Told mid (λ files. length (bytes_in files log.name) ≤ log.length) → Told before (λ files. length (bytes_in files log.name) ≤ log.length)
least_earlier None mid log grow least = tt
least_earlier (Some x) None log grow least = absurd grow
least_earlier (Some x) (Some y) log grow least =
    let more = length_grown x y log.name (length (bytes_in x log.name)) grow (omega arith) in
    omega arith

length_earlier : (before mid now : Option Folder) → OnlyGrow before mid → (log : NameLength) → IsLength mid now log → IsLength before now log
length_earlier before mid now grow log is = record { least = least_earlier before mid log grow is.least; most = is.most; bounded = is.bounded }

-- listed logs stay so while they grow
listed_later : (before mid now : Option Folder) (q : model.Query) (logs : List NameLength) → OnlyGrow mid now → AreListed before mid q logs → AreListed before now q logs
listed_later before mid now q logs grow are = record {
  listed = lists_grown mid now (from_names q) (listed_names logs) grow are.listed;
  lengths = All-weaker (IsLength before mid) (IsLength before now) (length_later before mid now grow) logs are.lengths;
  few = are.few;
}

listed_earlier : (before mid now : Option Folder) (q : model.Query) (logs : List NameLength) → OnlyGrow before mid → AreListed mid now q logs → AreListed before now q logs
listed_earlier before mid now q logs grow are = record {
  listed = are.listed;
  lengths = All-weaker (IsLength mid now) (IsLength before now) (length_earlier before mid now grow) logs are.lengths;
  few = are.few;
}

-- standard input is what it is
logs_later_of : (stdin : Bool) (before mid now : Option Folder) (q : model.Query) (logs : List NameLength) → OnlyGrow mid now → AreLogsOf stdin before mid q logs → AreLogsOf stdin before now q logs
logs_later_of false before mid now q logs grow are = listed_later before mid now q logs grow are
logs_later_of true before mid now q logs grow are = are

pub logs_later : (before mid now : Option Folder) (q : model.Query) (logs : List NameLength) → OnlyGrow mid now → AreLogs before mid q logs → AreLogs before now q logs
logs_later before mid now q logs grow are = logs_later_of (reads_stdin (names_in q)) before mid now q logs grow are

logs_earlier_of : (stdin : Bool) (before mid now : Option Folder) (q : model.Query) (logs : List NameLength) → OnlyGrow before mid → AreLogsOf stdin mid now q logs → AreLogsOf stdin before now q logs
logs_earlier_of false before mid now q logs grow are = listed_earlier before mid now q logs grow are
logs_earlier_of true before mid now q logs grow are = are

pub logs_earlier : (before mid now : Option Folder) (q : model.Query) (logs : List NameLength) → OnlyGrow before mid → AreLogs mid now q logs → AreLogs before now q logs
logs_earlier before mid now q logs grow are = logs_earlier_of (reads_stdin (names_in q)) before mid now q logs grow are

-- the logs of a query that reads no standard input are those that its names list
pub are_listed : (before now : Option Folder) (q : model.Query) (logs : List NameLength) → reads_stdin (names_in q) ≡ false → AreLogs before now q logs → AreListed before now q logs
are_listed before now q logs files are = subst (λ (stdin : Bool). AreLogsOf stdin before now q logs) files are

pub from_listed : (before now : Option Folder) (q : model.Query) (logs : List NameLength) → reads_stdin (names_in q) ≡ false → AreListed before now q logs → AreLogs before now q logs
from_listed before now q logs files are = subst (λ (stdin : Bool). AreLogsOf stdin before now q logs) (sym files) are

-- what is read of standard input
pub from_input : (before now : Option Folder) (q : model.Query) (spans : List Span) → reads_stdin (names_in q) ≡ true → spans ≡ whole_spans input_logs → AreSpans before now q spans
from_input before now q spans stdin wholes =
    let none : input_logs ≡ input_logs = refl in
    record { logs = input_logs; are_logs = subst (λ (b : Bool). AreLogsOf b before now q input_logs) (sym stdin) none; wholes = wholes }

pub is_unlisted : (now : Option Folder) (q : model.Query) (fault : ListFault) → IsListFault now (from_names q) fault → IsUnlisted now q (unlisted fault)
is_unlisted now q (L.BadName fault) refused = refused
is_unlisted now q (L.NoSuchLog name) refused = refused
is_unlisted now q L.TooManyLogs refused = refused
is_unlisted now q L.Logs refused = tt
is_unlisted now q L.Memory refused = tt

pub logs_failed : (fault : ListFault) → unlisted fault ≡ LogsFault → fault ≡ L.Logs
logs_failed (L.BadName fault) e = absurd (cc)
logs_failed (L.NoSuchLog name) e = absurd (cc)
logs_failed L.TooManyLogs e = absurd (cc)
logs_failed L.Logs e = refl
logs_failed L.Memory e = absurd (cc)
