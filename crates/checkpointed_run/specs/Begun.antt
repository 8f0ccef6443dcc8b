-- How a run over a ledger begins: what was kept of the ledger's runs is loaded, and the logs behind FROM have spans from there on.
use Rattle.std.specs.Prelude.{◌≡◌, ◌⊎◌, ℕ, List, Option, Some, None}
use Rattle.grammar.specs.Trees.{Query}
use Rattle.disk_model.specs.Disk.{DiskState}
use Rattle.ledger.specs.Reader.{Holds}
use Rattle.ledger_model.specs.Entries.{Entry}
use Rattle.log_reading.specs.Spans.{spans_size}
use Rattle.log_reading.specs.declared.span.Span.{Span}
use Rattle.lp_model.specs.Outside.{Folder, OnlyGrow}
use Rattle.positions.specs.Loads.{KeepsLedger}
use Rattle.positions.specs.Places.{Kept}
use Rattle.positions.specs.Spanning.{AreOf, AreSpansOf, IsJudged, IsStopped}
use Rattle.positions.specs.Spans.{Agrees}
use Rattle.positions.specs.declared.spans.SpanFault.{SpanFault}
use Rattle.run_model.specs.Logs.{Rotation}
use Rattle.checkpointed_run.specs.Clash.{first_clash}
use Rattle.checkpointed_run.specs.Reading.{ReadsThen}

-- what was kept of the ledger that a read gives, of runs that read their logs as this text says, and the spans of the logs that texts reach
pub record HasSpans (disk : DiskState) (ledger : List ℕ) (rotation : Rotation) (input : List ℕ) (texts : List (List ℕ)) (before now : Option Folder) (spans : List Span) : Type 0 where
  pub kept : Kept
  pub loads : (file : List ℕ) → Holds disk ledger file → KeepsLedger file kept
  pub agrees : Agrees kept.input input
  pub are : (entries : List Entry) → AreOf rotation entries kept → AreSpansOf rotation kept.places entries texts before now spans

-- or why the logs have none
pub record HasNoSpans (disk : DiskState) (ledger : List ℕ) (rotation : Rotation) (input : List ℕ) (texts : List (List ℕ)) (before now : Option Folder) (fault : SpanFault) : Type 0 where
  pub kept : Kept
  pub loads : (file : List ℕ) → Holds disk ledger file → KeepsLedger file kept
  pub judged : IsJudged kept.input input fault
  pub stopped : (entries : List Entry) → AreOf rotation entries kept → IsStopped rotation kept.places entries texts before now fault

-- or one of the spans is of the ledger or of the stage, and this is the first such name
pub record HasClash (disk : DiskState) (ledger stage : List ℕ) (rotation : Rotation) (input : List ℕ) (texts : List (List ℕ)) (before now : Option Folder) (name : List ℕ) : Type 0 where
  pub listed : Option Folder
  pub grows : OnlyGrow listed now
  pub spans : List Span
  pub has : HasSpans disk ledger rotation input texts before listed spans
  pub is : first_clash ledger stage spans ≡ Some name

-- no more was given than the logs of the query's subqueries, and than the spans have bytes that the logs had when they were listed
pub record TakesSpans (disk : DiskState) (ledger stage : List ℕ) (rotation : Rotation) (input : List ℕ) (texts : List (List ℕ)) (q : Query) (before now : Option Folder) (given_before given_now : ℕ) : Type 0 where
  pub listed : Option Folder
  pub grows : OnlyGrow listed now
  pub spans : List Span
  pub has : HasSpans disk ledger rotation input texts before listed spans
  pub free : first_clash ledger stage spans ≡ None
  pub most : ReadsThen now q (spans_size spans) given_before given_now

-- or nothing was
abbrev pub GivesSpans : DiskState → List ℕ → List ℕ → Rotation → List ℕ → List (List ℕ) → Query → Option Folder → Option Folder → ℕ → ℕ → Type 0
GivesSpans disk ledger stage rotation input texts q before now given_before given_now = (given_now ≡ given_before) ⊎ TakesSpans disk ledger stage rotation input texts q before now given_before given_now
