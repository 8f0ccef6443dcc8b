-- Where the rows of a query go.
use Rattle.std.specs.Prelude.{ℕ, ℤ, Bool, true, List, [], ◌∷◌, ◌++◌, map, codes, Option, Some, None, if◌then◌else◌}
use Rattle.std.specs.Str.{str_eq_ignore_ascii_case}
use Rattle.grammar.specs.Filled.{given_logs}
use Rattle.grammar.specs.Trees.{Placed, Query}
use Rattle.command_words.specs.declared.spec.Spec.{Spec}
use Rattle.log_listing.specs.Firsts.{with_names}
use Rattle.log_reading.specs.declared.span.Span.{Span}
use Rattle.query_text.specs.Stdin.{names_in}
use Rattle.row_output.specs.Asked.{Asked, Files}
use Rattle.tpl_output.specs.Sections.{Sections}
use Rattle.execution.specs.Built.{reads_stdin}
use Rattle.execution.specs.Plans.{PlannedQuery, asked_for}
use Rattle.execution.specs.Texts.{into_in, run_text}

-- the name of standard output, in any case of its letters
abbrev pub is_stdout : List ℕ → Bool
is_stdout name = str_eq_ignore_ascii_case name (codes "STDOUT")

-- INTO is absent, or names standard output
abbrev pub is_standard : Option Placed → Bool
is_standard None = true
is_standard (Some name) = is_stdout name.text

-- the files that a run with a checkpoint keeps for itself: the ledger and its stage
abbrev pub own_names : Option (List ℕ) → List (List ℕ)
own_names None = []
own_names (Some ledger) = ledger ∷ (ledger ++ codes ".stage") ∷ []

-- the names of the logs that are files, of which standard input is none, and those of the query's subqueries
abbrev pub log_names : Query → List Span → List (List ℕ)
log_names q spans = (if reads_stdin (names_in q) then [] else map (λ (span : Span). span.name) spans) ++ given_logs q

-- the names that no output may have: those files, and the logs that are read
abbrev pub forbidden_by : Spec → List (List ℕ) → List (List ℕ)
forbidden_by spec logs = with_names [] (own_names spec.checkpoint ++ logs)

-- the files that an INTO name stands for
abbrev pub files_named : Spec → List (List ℕ) → Option Placed → Option Files
files_named spec logs None = None
files_named spec logs (Some name) = if is_stdout name.text then None else Some (record { pattern = name.text; forbidden = forbidden_by spec logs; mode = spec.file_mode })

abbrev pub files_of : Spec → Query → List Span → Option Files
files_of spec q spans = files_named spec (log_names q spans) (into_in q)

-- what becomes of the rows of a plan of a query
abbrev pub asked_in : Spec → Sections → ℤ → Query → List Span → PlannedQuery → Asked
asked_in spec template moment q spans = asked_for (files_of spec q spans) (run_text spec template moment q) q
