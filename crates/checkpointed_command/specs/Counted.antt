-- A run with a checkpoint that came to counts, whatever world it ran in.
use Rattle.std.specs.Prelude.{ℕ, ℤ, List, map, Option}
use Rattle.disk_model.specs.Disk.{DiskState}
use Rattle.grammar.specs.Trees.{Query}
use Rattle.ledger_model.specs.Inputs.{input_text}
use Rattle.lp_model.specs.Outside.{Folder, OnlyGrow}
use Rattle.command_words.specs.declared.spec.Spec.{Spec}
use Rattle.positions.specs.Spanning.{rule_of}
use Rattle.checkpointed_run.specs.Inputs.{input_for}
use Rattle.query_run.specs.declared.executing.Counts.{Counts}
use Rattle.query_text.specs.Stdin.{names_in}
use Rattle.tpl_output.specs.Sections.{Sections}
use Rattle.checkpointed_run.specs.Counted.{HasRun}
use Rattle.checkpointed_run.specs.Staged.{request_of}
use Rattle.checkpointed_command.specs.Asked.{IsPrepared}
use Rattle.checkpointed_command.specs.Refusals.{IsSettledBy}

-- all that comes before the logs was read, and the query was carried out over them, with these counts
pub record IsCounted {D : Type 0} (state : D → DiskState) (disk : DiskState) (ledger stage : List ℕ) (before now : Option Folder) (spec : Spec) (moment : ℤ) (counts : Counts) : Type 0 where
  pub text : List ℕ
  pub q : Query
  pub bytes : List ℕ
  pub template : Sections
  pub prepared : IsPrepared before now spec text q bytes template
  pub began : Option Folder
  pub since : OnlyGrow before began
  pub ran : HasRun state disk ledger stage (rule_of spec.rotation) (input_text (input_for spec q)) (map (λ name. name.text) (names_in q)) (request_of spec q text bytes moment) template began now counts

-- before that the disk was settled, as what was read of it fits
pub record IsWhole {D : Type 0} (state : D → DiskState) (old : D) (ledger stage : List ℕ) (before now : Option Folder) (spec : Spec) (moment : ℤ) (counts : Counts) : Type 0 where
  pub settled : D
  pub settles : IsSettledBy (state old) (state settled) ledger stage
  pub counted : IsCounted state (state settled) ledger stage before now spec moment counts
