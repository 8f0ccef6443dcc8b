-- The logs that a query's FROM names list, each read whole.
use Rattle.std.specs.Prelude.{◌≡◌, ◌≤◌, ℕ, Bool, List, length, map, find, is_some, Option, All}
use Rattle.grammar.specs.Trees as model
use Rattle.lp_model.specs.Outside.{Folder, Told}
use Rattle.lp_time.specs.declared.piece.Piece.{Piece}
use Rattle.command_words.specs.declared.spec.Spec.{Spec}
use Rattle.checkpoint.specs.Wholes.{whole_spans}
use Rattle.execution.specs.Executed.{told_table}
use Rattle.execution.specs.Outputs.{own_names}
use Rattle.execution.specs.declared.formats.LogFormat.{LogFormat}
use Rattle.execution.specs.declared.formats.LogFormat.TheVariants as F
use Rattle.input_tables.specs.Tables.{table_of}
use Rattle.log_listing.specs.declared.lengths.NameLength.{NameLength}
use Rattle.log_listing.specs.Firsts.{is_among}
use Rattle.log_listing.specs.Lengths.{IsLength}
use Rattle.log_listing.specs.Lengths.{names_in as listed_names}
use Rattle.log_listing.specs.Listed.{Lists}
use Rattle.log_reading.specs.declared.span.Span.{Span}
use Rattle.query_text.specs.Stdin.{names_in}
use Rattle.query_types.specs.declared.table.TableColumns.{TableColumns}

-- with a checkpoint the last line of a log waits for its LF
abbrev pub lines_wait : Spec → Bool
lines_wait spec = is_some spec.checkpoint

-- the names behind FROM
abbrev pub from_names : model.Query → List (List ℕ)
from_names q = map (λ name. name.text) (names_in q)

-- these are the logs of the FROM names, each with its length at some moment between two
pub record AreListed (before now : Option Folder) (q : model.Query) (logs : List NameLength) : Type 0 where
  pub listed : Lists now (from_names q) (listed_names logs)
  pub lengths : All (IsLength before now) logs
  pub few : length logs ≤ 100000

-- these are their spans, each whole
pub record AreWhole (before now : Option Folder) (q : model.Query) (spans : List Span) : Type 0 where
  pub logs : List NameLength
  pub are_listed : AreListed before now q logs
  pub wholes : spans ≡ whole_spans logs

-- the first of these names that is the ledger's or the stage's
abbrev pub first_own : Option (List ℕ) → List (List ℕ) → Option (List ℕ)
first_own checkpoint names = find (is_among (own_names checkpoint)) names

-- a fact on the table of a run over whole logs; one that the logs tell is known where these tell their bytes
abbrev pub OnWhole : LogFormat → Bool → List Piece → Option Folder → List NameLength → (TableColumns → Type 0) → Type 0
OnWhole (F.Tabled format) waits pattern told logs P = P (table_of format)
OnWhole (F.Sampled options limit) waits pattern told logs P = Told told (λ folder. P (told_table options waits limit pattern folder (whole_spans logs)))
