-- The template of a run without a checkpoint.
use Rattle.std.proofs.Common.{◌≡◌, ℕ, List, Option, refl, sym, subst}
use Rattle.grammar.specs.Trees as model
use Rattle.lp_model.specs.Outside.{Folder}
use Rattle.command_words.specs.declared.formats.OutputFormat.{OutputFormat}
use Rattle.command_words.specs.declared.spec.Spec.{Spec}
use Rattle.reports.specs.declared.status.Status.{Status}
use Rattle.reports.specs.declared.status.Status.TheVariants as S
use Rattle.requests.specs.Templates.{IsNoTemplate}
use Rattle.requests.specs.declared.fault.NoTemplate.{NoTemplate}
use Rattle.requests.specs.declared.fault.NoTemplate.TheVariants as N
use Rattle.tpl_output.specs.Sections.{Sections}
use Rattle.checkpointed_command.specs.Statuses.{untemplated}
use Rattle.checkpointed_command.specs.Templates.{AreBytesFor, FindsTemplate, HoldsNone}
use Rattle.logparser_cli.specs.Templates.{IsTemplate, IsUntemplated, IsWithoutTemplate}

pub template_of : (before now : Option Folder) (spec : Spec) (q : model.Query) (bytes : List ℕ) (template : Sections) → FindsTemplate before now spec q bytes template → IsTemplate before now spec q template
template_of before now spec q bytes template found = λ output.
    let file = subst (λ (o : OutputFormat). AreBytesFor o before now spec bytes) output found.bytes_are in
    let sections = found.sections output in
    record { name = file.name; named = file.named; holds = record { text = bytes; holds = file.cut; good = sections.0; sections_are = sections.1 } }

untemplated_is : (before now : Option Folder) (name : List ℕ) (fault : NoTemplate) → IsNoTemplate before now name fault → IsUntemplated before now name (untemplated fault)
untemplated_is before now name (N.NoSuchLog missing) h = h
untemplated_is before now name (N.Fault fault) h = h
untemplated_is before now name N.Logs h = tt
untemplated_is before now name N.Memory h = tt

pub without_template : (before now : Option Folder) (spec : Spec) (q : model.Query) (fault : NoTemplate) (status : Status) → status ≡ untemplated fault → HoldsNone before now spec q fault → IsWithoutTemplate before now spec q status
without_template before now spec q fault status is none = record {
  output = none.output;
  name = none.name;
  named = none.named;
  refused = subst (λ (s : Status). IsUntemplated before now none.name s) (sym is) (untemplated_is before now none.name fault none.why);
}

-- only a failed call of the logs is told as one
pub logs_untemplated : (fault : NoTemplate) → untemplated fault ≡ S.LogsFault → fault ≡ N.Logs
logs_untemplated (N.NoSuchLog name) e = absurd cc
logs_untemplated (N.Fault fault) e = absurd cc
logs_untemplated N.Logs e = refl
logs_untemplated N.Memory e = absurd cc
