-- A run that stands in the stage, from the moment before it was started.
use Rattle.std.specs.Prelude.{◌≡◌, ℕ, ◌<◌, ◌≤◌, ◌^◌, ℤ, List, [], length, All, Option}
use Rattle.std.specs.Bool.{⊤}
use Rattle.std.specs.Str.{IsUtf8}
use Rattle.grammar.specs.Filled.{PlacedGiven, filled}
use Rattle.grammar.specs.Trees.{Query}
use Rattle.lp_model.specs.Outside.{Folder}
use Rattle.disk_model.specs.Disk.{DiskState}
use Rattle.ledger_model.specs.Entries.{Entry}
use Rattle.ledger_model.specs.Grammar.{IsEntry}
use Rattle.lp_values.specs.declared.value.Value.{Value}
use Rattle.command_words.specs.declared.spec.Spec.{Spec}
use Rattle.log_reading.specs.declared.span.Span.{Span}
use Rattle.log_reading.specs.declared.span.Took.{Took}
use Rattle.query_run.specs.declared.executing.Counts.{Counts}
use Rattle.text_output.specs.declared.target.Output.{Output}
use Rattle.tpl_output.specs.Sections.{Sections}
use Rattle.commit.specs.declared.phases.Commit.{Commit}
use Rattle.commit.specs.Phases.{disk_of, stage_of, staged_of, Goes, HasFrames}
use Rattle.run_entry.specs.Giving.{GiveThese}
use Rattle.run_entry.specs.Entries.{Request, entry_for}
use Rattle.run_entry.specs.Forms.{AreCounts, AreKeptLists, HasForm, IsFileName, IsOutput}
use Rattle.checkpointed_run.specs.Carried.{IsCarriedOut}
use Rattle.checkpointed_run.specs.Filled.{filled_request}

abbrev pub request_of : Spec → Query → List ℕ → List ℕ → ℤ → Request
request_of spec q text template moment = record { spec = spec; q = q; text = text; template = template; moment = moment }

-- a word that an entry may keep
pub record IsWord (word : List ℕ) : Type 0 where
  pub utf8 : IsUtf8 word
  pub short : length word < 2 ^ 32

-- What an entry's parts are by the types of their values, or since they were tested before the entry was made.
pub record AreParts (words : List (List ℕ)) (bytes : List ℕ) (lists : List (List Value)) (logs : List Took) (written : List Output) (numbers : Counts) : Type 0 where
  pub few_words : length words < 2 ^ 32
  pub each_word : All IsWord words
  pub short_template : length bytes ≤ 1_048_576
  pub kept : AreKeptLists lists
  pub each_log : All (λ (log : Took). IsFileName log.identity) logs
  pub each_output : All IsOutput written
  pub counts : AreCounts numbers

-- A run of what was asked was carried out over the stage, and this is its entry, which keeps these lists.
pub record HasEntryFor {D : Type 0} (state : D → DiskState) (request : Request) (lists : List (List Value)) (template : Sections) (told : Option Folder) (spans : List Span) (old new : Commit D) (entry : Entry) (counts : Counts) : Type 0 where
  pub goes : Goes state old new
  pub took : List Took
  pub outputs : List Output
  pub carried : IsCarriedOut state (λ commit name base mark. ⊤) request template told spans old new took outputs counts
  pub entry_is : entry ≡ entry_for request lists took outputs (staged_of new) counts
  pub few : length spans ≤ 100_000
  pub parts : AreParts request.spec.words request.template lists took outputs counts
  -- an entry whose parts have their form has its own
  pub formed : HasForm request lists took outputs (staged_of new) counts → IsEntry entry

-- a query is another one with what its subqueries gave between two moments, and these lists are kept of them
pub record IsGiven (spec : Spec) (moment : ℤ) (began told : Option Folder) (q whole : Query) (lists : List (List Value)) : Type 0 where
  pub givens : List PlacedGiven
  pub give : GiveThese spec moment began told q givens lists
  pub whole_is : whole ≡ filled givens q

-- The stage was emptied, the subqueries gave what they had between two moments of the folder, and with it the run was carried out, whose
-- entry keeps their lists.
pub record HasStagedRun {D : Type 0} (state : D → DiskState) (request : Request) (template : Sections) (began told : Option Folder) (spans : List Span) (old new : Commit D) (entry : Entry) (counts : Counts) : Type 0 where
  pub started : Commit D
  pub starts : Goes state old started
  pub empty : (disk_of state old).tells → HasFrames state started × ((disk_of state started).seen (stage_of started) ≡ [])
  pub givens : List PlacedGiven
  pub lists : List (List Value)
  pub give : GiveThese request.spec request.moment began told request.q givens lists
  pub run : HasEntryFor state (filled_request givens request) lists template told spans started new entry counts
