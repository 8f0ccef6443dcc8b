-- How a run over standard input ends.
use Rattle.std.specs.Prelude.{◌≡◌, ◌+◌, ◌≤◌, ◌^◌, ℕ, Bool, false, List, ◌++◌, length, Option, option_map}
use Rattle.grammar.specs.Trees as model
use Rattle.lp_model.specs.Outside.{Folder}
use Rattle.command_words.specs.declared.spec.Spec.{Spec}
use Rattle.checkpointed_command.specs.Built.{reads_stdin}
use Rattle.checkpointed_command.specs.RunFault.{RunFault}
use Rattle.checkpointed_command.specs.RunFault.TheVariants as X
use Rattle.checkpointed_command.specs.Statuses.{stopped}
use Rattle.logparser_cli.specs.Outputs.{Input}
use Rattle.query_text.specs.Stdin.{names_in}
use Rattle.requests.specs.Requests.{Asks}
use Rattle.reports.specs.declared.status.Status.{Status}
use Rattle.reports.specs.declared.status.Status.TheVariants.{SourceFault}

-- what a fault is as an answer, where standard input stands in the place of the logs
abbrev pub stopped_input : Bool → RunFault → Status
stopped_input standard X.LogsFault = SourceFault
stopped_input standard other = stopped standard other

-- the words ask for no query that reads standard input
abbrev pub AsksNoInput : Option Folder → Option Folder → List (List ℕ) → Type 0
AsksNoInput before now words = (spec : Spec) (q : model.Query) → Asks before now words spec q → reads_stdin (names_in q) ≡ false

-- standard input was read from its front on, up to 2^40 bytes
pub record IsReadOn (old new : Input) : Type 0 where
  pub bytes : List ℕ
  pub left : option_map (λ rest. bytes ++ rest) new.left ≡ old.left
  pub given : new.given ≡ old.given + length bytes
  pub most : length bytes ≤ 2 ^ 40
