-- Why a subquery of a query gives nothing.
use Rattle.std.specs.Prelude.{◌≡◌, ◌+◌, ℕ, ℤ, List, ◌∷◌, ◌++◌, Option, Some, None, Ok, Err, ⊤}
use Rattle.grammar.specs.Filled.{PlacedGiven, asked_places}
use Rattle.grammar.specs.Trees.{Query}
use Rattle.lp_model.specs.Outside.{Folder, Told}
use Rattle.lp_values.specs.declared.value.Value.{Value}
use Rattle.command_words.specs.declared.spec.Spec.{Spec}
use Rattle.checkpoint.specs.Wholes.{whole_spans}
use Rattle.execution.specs.declared.formats.LogFormat.{LogFormat}
use Rattle.execution.specs.declared.formats.LogFormat.TheVariants as LF
use Rattle.execution.specs.Formats.{lines_in, log_format}
use Rattle.group_planning.specs.Subquery.{subquery_plan_of}
use Rattle.input_tables.specs.Tables.{table_of}
use Rattle.list_run.specs.declared.fault.ListFault.{ListFault as ReadFault}
use Rattle.list_run.specs.declared.fault.ListFault.TheVariants as R
use Rattle.log_listing.specs.declared.fault.ListFault.{ListFault}
use Rattle.log_listing.specs.declared.fault.ListFault.TheVariants as L
use Rattle.log_listing.specs.declared.lengths.NameLength.{NameLength}
use Rattle.log_listing.specs.Lengths.{names_in as listed_names}
use Rattle.log_listing.specs.Listed.{IsListFault}
use Rattle.log_reading.specs.Page.{IsTooMany}
use Rattle.log_reading.specs.Spans.{BadLine, bad_line, spans_bad_lines}
use Rattle.query_types.specs.Planned.{Planned}
use Rattle.query_types.specs.declared.fault.TypeFault.{TypeFault}
use Rattle.subqueries.specs.declared.fault.SubqueryFault.{SubqueryFault}
use Rattle.subqueries.specs.declared.fault.SubqueryFault.TheVariants as F
use Rattle.subqueries.specs.Giving.{AllGive, bad_of, subqueries_of}
use Rattle.subqueries.specs.Listing.{AreListed, OnWhole, first_own, from_names, lines_wait}

-- a log of it is one that the run keeps for itself: this is the first of them
pub record IsClash (spec : Spec) (before now : Option Folder) (q : Query) (name : List ℕ) : Type 0 where
  pub logs : List NameLength
  pub are_listed : AreListed before now q logs
  pub first : first_own spec.checkpoint (listed_names logs) ≡ Some name

-- it has no plan over the table of its logs, by this fault
pub record IsUnplanned (format : LogFormat) (spec : Spec) (moment : ℤ) (before now : Option Folder) (q : Query) (fault : TypeFault) : Type 0 where
  pub logs : List NameLength
  pub are_listed : AreListed before now q logs
  pub free : first_own spec.checkpoint (listed_names logs) ≡ None
  pub unplanned : OnWhole format (lines_wait spec) spec.ts_format now logs (λ table. subquery_plan_of table moment q ≡ Err fault)

-- over a table that is known before a log is read, a subquery has a plan
abbrev pub IsTyped : LogFormat → ℤ → Query → Type 0
IsTyped (LF.Tabled format) moment q = (plan : Planned) × (subquery_plan_of (table_of format) moment q ≡ Ok plan)
IsTyped (LF.Sampled options limit) moment q = ⊤

-- of the bad lines of its logs, in order, with so many before them, this is the first that is one too many
pub record IsExceeded (format : LogFormat) (spec : Spec) (moment : ℤ) (before now : Option Folder) (q : Query) (most : Option ℕ) (bad : ℕ) (line : BadLine) : Type 0 where
  pub logs : List NameLength
  pub are_listed : AreListed before now q logs
  pub free : first_own spec.checkpoint (listed_names logs) ≡ None
  pub typed : IsTyped format moment q
  pub exceeds : Told now (λ folder. IsTooMany most bad (spans_bad_lines (lines_in format) (lines_wait spec) folder (whole_spans logs)) line)

-- why a subquery is refused, of whose logs so many bad lines more are one too many behind so many
abbrev pub IsRefusedWith : LogFormat → Spec → ℤ → Option Folder → Option Folder → Query → Option ℕ → ℕ → SubqueryFault → Type 0
IsRefusedWith format spec moment before now q most bad (F.BadName fault) = IsListFault now (from_names q) (L.BadName fault)
IsRefusedWith format spec moment before now q most bad (F.NoSuchLog name) = IsListFault now (from_names q) (L.NoSuchLog name)
IsRefusedWith format spec moment before now q most bad F.TooManyLogs = IsListFault now (from_names q) L.TooManyLogs
IsRefusedWith format spec moment before now q most bad (F.Clash name) = IsClash spec before now q name
IsRefusedWith format spec moment before now q most bad (F.Plan fault) = IsUnplanned format spec moment before now q fault
IsRefusedWith format spec moment before now q most bad (F.Bad log row) = IsExceeded format spec moment before now q most bad (bad_line log row)
IsRefusedWith format spec moment before now q most bad F.Logs = ⊤
IsRefusedWith format spec moment before now q most bad F.Memory = ⊤

abbrev pub IsRefusedOne : LogFormat → Spec → ℤ → Option Folder → Option Folder → Query → Option ℕ → SubqueryFault → Type 0
IsRefusedOne format spec moment before now q most fault = IsRefusedWith format spec moment before now q most 0 fault

-- of queries, each with its place, behind so many bad lines, those before one gave these, and that one is refused
pub record IsUngivenIn (format : LogFormat) (spec : Spec) (moment : ℤ) (before now : Option Folder) (qs : List Query) (places : List ℕ) (bad : ℕ) (fault : SubqueryFault) : Type 0 where
  pub front : List Query
  pub refused : Query
  pub rest : List Query
  pub parts : qs ≡ front ++ refused ∷ rest
  pub asked : List ℕ
  pub others : List ℕ
  pub placed : places ≡ asked ++ others
  pub givens : List PlacedGiven
  pub lists : List (List Value)
  pub give : AllGive format spec moment before now front asked givens lists
  pub why : IsRefusedWith format spec moment before now refused spec.errors (bad + bad_of givens) fault

-- why all stops there: one is refused, a call of the logs failed, or memory was refused
abbrev pub StopsBehind : LogFormat → Spec → ℤ → Option Folder → Option Folder → List Query → List ℕ → ℕ → SubqueryFault → Type 0
StopsBehind format spec moment before now qs places bad F.Logs = ⊤
StopsBehind format spec moment before now qs places bad F.Memory = ⊤
StopsBehind format spec moment before now qs places bad (F.BadName fault) = IsUngivenIn format spec moment before now qs places bad (F.BadName fault)
StopsBehind format spec moment before now qs places bad (F.NoSuchLog name) = IsUngivenIn format spec moment before now qs places bad (F.NoSuchLog name)
StopsBehind format spec moment before now qs places bad F.TooManyLogs = IsUngivenIn format spec moment before now qs places bad F.TooManyLogs
StopsBehind format spec moment before now qs places bad (F.Clash name) = IsUngivenIn format spec moment before now qs places bad (F.Clash name)
StopsBehind format spec moment before now qs places bad (F.Plan fault) = IsUngivenIn format spec moment before now qs places bad (F.Plan fault)
StopsBehind format spec moment before now qs places bad (F.Bad log row) = IsUngivenIn format spec moment before now qs places bad (F.Bad log row)

-- of the subqueries of a query
abbrev pub StopsBy : Spec → ℤ → Option Folder → Option Folder → Query → SubqueryFault → Type 0
StopsBy spec moment before now q fault = StopsBehind (log_format spec q) spec moment before now (subqueries_of q) (asked_places q) 0 fault

-- how many bad lines there may be behind so many, if not any number
abbrev pub IsLeft : Option ℕ → ℕ → Option ℕ → Type 0
IsLeft None bad None = ⊤
IsLeft None bad (Some left) = ⊥
IsLeft (Some most) bad None = ⊥
IsLeft (Some most) bad (Some left) = bad + left ≡ most

-- what a refusal of the list of logs is
abbrev pub unlisted : ListFault → SubqueryFault
unlisted (L.BadName fault) = F.BadName fault
unlisted (L.NoSuchLog name) = F.NoSuchLog name
unlisted L.TooManyLogs = F.TooManyLogs
unlisted L.Logs = F.Logs
unlisted L.Memory = F.Memory

-- and one of its records
abbrev pub read_fault : ReadFault → SubqueryFault
read_fault (R.Plan fault) = F.Plan fault
read_fault R.Logs = F.Logs
read_fault (R.Bad log row) = F.Bad log row
read_fault R.Memory = F.Memory
