-- How many bytes of files a run reads, step by step.
use Rattle.std.proofs.Common.{◌≡◌, ◌≤◌, ◌+◌, ◌-◌, ℕ, suc, List, [], ◌∷◌, ◌++◌, length, All, false, Option, Some, None, refl, inl, inr, ap, arith}
use Rattle.std.proofs.lemmas.List.Sums.{sum_by-append}
use Rattle.grammar.specs.Trees as model
use Rattle.lp_model.specs.Outside.{Folder, OnlyGrow, bytes_in}
use Rattle.command_words.specs.declared.spec.Spec.{Spec}
use Rattle.command_words.specs.Words.{query_in}
use Rattle.checkpoint.specs.Wholes.{whole_spans}
use Rattle.checkpointed_command.specs.Built.{reads_stdin}
use Rattle.query_text.specs.Stdin.{names_in}
use Rattle.log_listing.specs.Lengths.{IsLength}
use Rattle.log_listing.specs.Lengths.{names_in as listed_names}
use Rattle.log_listing.specs.declared.lengths.NameLength.{NameLength}
use Rattle.log_reading.specs.declared.span.Span.{Span}
use Rattle.log_reading.specs.Spans.{spans_size}
use Rattle.requests.specs.Given.{ReadsOnce, query_files, sizes}
use Rattle.requests.specs.Requests.{Asks}
use Rattle.requests.proofs.Given.{sizes_more, reads_none, reads_on, reads_more}
use Rattle.requests.proofs.Growing.{asks_grown}
use Rattle.checkpointed_command.specs.Given.{template_files}
use Rattle.logparser_cli.specs.Given.{ReadsLogs, ReadsQuery, ReadsWords}
use Rattle.logparser_cli.specs.Logs.{AreSpans}
use Rattle.checkpointed_command.specs.Giving.{subqueries_of}
use Rattle.logparser_cli.proofs.Prepared.{none_read as none_of}
use Rattle.logparser_cli.proofs.Wholes.{are_listed, logs_later}

behind : (P : NameLength → Type 0) (log : NameLength) (logs : List NameLength) → All P (log ∷ logs) → All P logs
behind P log logs all = λ k d here. all (suc k) d (omega arith)

-- the spans of whole logs have no more bytes than the logs
spans_most : (folder : Folder) (logs : List NameLength) → All (λ (log : NameLength). log.length ≤ length (bytes_in folder log.name)) logs → spans_size (whole_spans logs) ≤ sizes folder (listed_names logs)
spans_most folder [] most = omega arith
spans_most folder (log ∷ logs) most =
    let first = most 0 log (omega arith) in
    let rest = spans_most folder logs (behind (λ (log : NameLength). log.length ≤ length (bytes_in folder log.name)) log logs most) in
    let before : spans_size (whole_spans (log ∷ logs)) ≡ (0 + (log.length - 0)) + spans_size (whole_spans logs) = sum_by-append (λ (span : Span). span.listed - span.from) (whole_spans (log ∷ [])) (whole_spans logs) in
    let after = sizes_more folder log.name (listed_names logs) in
    omega arith

all_most : (before : Option Folder) (folder : Folder) (logs : List NameLength) → All (IsLength before (Some folder)) logs → All (λ (log : NameLength). log.length ≤ length (bytes_in folder log.name)) logs
all_most before folder logs lengths = λ k d here. (lengths k d here).most

-- no log is read
pub no_logs : (now : Option Folder) (q : model.Query) (before later : ℕ) → later ≤ before → ReadsLogs now q before later
no_logs now q before later same = record { logs = []; are_read = inl refl; once = reads_none now [] before later same }

once_told : (before now : Option Folder) (logs : List NameLength) (spans : List Span) (given later : ℕ) → spans ≡ whole_spans logs → All (IsLength before now) logs → later ≤ given + spans_size spans → ReadsOnce now (listed_names logs) given later
once_told before None logs spans given later wholes lengths most = tt
once_told before (Some folder) logs spans given later wholes lengths most =
    let size = spans_most folder logs (all_most before folder logs lengths) in
    let same : spans_size spans ≡ spans_size (whole_spans logs) = ap spans_size wholes in
    omega arith

-- the logs are read, each once
pub logs_once : (old mid now : Option Folder) (q : model.Query) (spans : List Span) (before later : ℕ) → reads_stdin (names_in q) ≡ false → AreSpans old mid q spans → OnlyGrow mid now → later ≤ before + spans_size spans → ReadsLogs now q before later
logs_once old mid now q spans before later files found grow most =
    let are = are_listed old now q found.logs files (logs_later old mid now q found.logs grow found.are_logs) in
    record { logs = listed_names found.logs; are_read = inr are.listed; once = once_told old now found.logs spans before later found.wholes are.lengths most }

-- there is no template, and no log is read
pub template_alone : (now : Option Folder) (spec : Spec) (q : model.Query) (before later : ℕ) → ReadsOnce now (template_files spec q) before later → ReadsQuery now spec q before later
template_alone now spec q before later once = record { logs = []; are_read = none_of now (subqueries_of q ++ q ∷ []); once = reads_more now (template_files spec q) [] before later once }

pub none_read : (now : Option Folder) (spec : Spec) (q : model.Query) (before later : ℕ) → later ≤ before → ReadsQuery now spec q before later
none_read now spec q before later same = template_alone now spec q before later (reads_none now (template_files spec q) before later same)

-- the query's file is read, and then what the query asks for
pub query_then_rest : (old mid now : Option Folder) (words : List (List ℕ)) (spec : Spec) (q : model.Query) (before between later : ℕ) → OnlyGrow mid now → Asks old mid words spec q → ReadsOnce mid (query_files (query_in words)) before between → ReadsQuery now spec q between later
    → ReadsWords old now words before later
query_then_rest old mid now words spec q before between later grow asks file reads = inr (record {
  spec = spec;
  q = q;
  asks = asks_grown old mid now words spec q grow asks;
  logs = reads.logs;
  are_read = reads.are_read;
  once = reads_on mid now (query_files (query_in words)) (template_files spec q ++ reads.logs) before between later grow file reads.once;
})
