-- What was read since some moment of a call was read since an earlier one, and stays read.
use Rattle.std.proofs.Common.{◌≡◌, ◌⊎◌, ℕ, List, [], Option, inl, inr}
use Rattle.grammar.specs.Trees.{Query}
use Rattle.lp_model.specs.Outside.{Folder, OnlyGrow}
use Rattle.command_words.specs.declared.formats.OutputFormat.{OutputFormat}
use Rattle.command_words.specs.declared.formats.OutputFormat.TheVariants as O
use Rattle.command_words.specs.declared.spec.Spec.{Spec}
use Rattle.checkpointed_run.specs.Texts.{output_of}
use Rattle.requests.specs.Texts.{HoldsQuery}
use Rattle.requests.specs.Files.{IsTextFault}
use Rattle.requests.specs.Templates.{IsNoTemplate}
use Rattle.requests.specs.declared.fault.NoTemplate.{NoTemplate}
use Rattle.requests.specs.declared.fault.NoTemplate.TheVariants as N
use Rattle.requests.specs.declared.fault.RequestFault.{RequestFault}
use Rattle.requests.specs.declared.fault.RequestFault.TheVariants as R
use Rattle.requests.proofs.Growing.{cut_grown, gone_grown, holds_grown}
use Rattle.requests.proofs.Templates.{cut_since, fault_since}
use Rattle.tpl_output.specs.Sections.{Sections}
use Rattle.checkpointed_command.specs.Templates.{IsFileCut, AreBytesFor, FindsTemplate, HoldsNone}

-- a query that was read stays read
pub query_grown : (before now later : Option Folder) (word text : List ℕ) (q : Query) → OnlyGrow now later → HoldsQuery before now word text q → HoldsQuery before later word text q
query_grown before now later word text q grow h = record { holds = holds_grown before now later word text grow h.holds; query = h.query; only = h.only }

file_grown : (before now later : Option Folder) (spec : Spec) (bytes : List ℕ) → OnlyGrow now later → IsFileCut before now spec bytes → IsFileCut before later spec bytes
file_grown before now later spec bytes grow f = record { name = f.name; named = f.named; cut = cut_grown before now later f.name bytes grow f.cut }

file_since : (before mid now : Option Folder) (spec : Spec) (bytes : List ℕ) → OnlyGrow before mid → IsFileCut mid now spec bytes → IsFileCut before now spec bytes
file_since before mid now spec bytes grow f = record { name = f.name; named = f.named; cut = cut_since before mid now f.name bytes grow f.cut }

bytes_grown : (output : OutputFormat) (before now later : Option Folder) (spec : Spec) (bytes : List ℕ) → OnlyGrow now later → AreBytesFor output before now spec bytes → AreBytesFor output before later spec bytes
bytes_grown O.Nat before now later spec bytes grow are = are
bytes_grown O.Csv before now later spec bytes grow are = are
bytes_grown O.Tsv before now later spec bytes grow are = are
bytes_grown O.W3c before now later spec bytes grow are = are
bytes_grown O.Tpl before now later spec bytes grow are = file_grown before now later spec bytes grow are

bytes_since : (output : OutputFormat) (before mid now : Option Folder) (spec : Spec) (bytes : List ℕ) → OnlyGrow before mid → AreBytesFor output mid now spec bytes → AreBytesFor output before now spec bytes
bytes_since O.Nat before mid now spec bytes grow are = are
bytes_since O.Csv before mid now spec bytes grow are = are
bytes_since O.Tsv before mid now spec bytes grow are = are
bytes_since O.W3c before mid now spec bytes grow are = are
bytes_since O.Tpl before mid now spec bytes grow are = file_since before mid now spec bytes grow are

-- what a template's bytes are as a part of what was asked
pub bytes_asked : (output : OutputFormat) (before now : Option Folder) (spec : Spec) (bytes : List ℕ) → AreBytesFor output before now spec bytes → (bytes ≡ []) ⊎ IsFileCut before now spec bytes
bytes_asked O.Nat before now spec bytes are = inl are
bytes_asked O.Csv before now spec bytes are = inl are
bytes_asked O.Tsv before now spec bytes are = inl are
bytes_asked O.W3c before now spec bytes are = inl are
bytes_asked O.Tpl before now spec bytes are = inr are

-- a template that was found since some moment was found since an earlier one, and stays found
pub found_over : (before mid now later : Option Folder) (spec : Spec) (q : Query) (bytes : List ℕ) (template : Sections) → OnlyGrow before mid → OnlyGrow now later → FindsTemplate mid now spec q bytes template → FindsTemplate before later spec q bytes template
found_over before mid now later spec q bytes template since grow f = record {
  sections = f.sections;
  bytes_are = bytes_since (output_of spec q) before mid later spec bytes since (bytes_grown (output_of spec q) mid now later spec bytes grow f.bytes_are);
}

none_since : (before mid now : Option Folder) (name : List ℕ) (fault : NoTemplate) → OnlyGrow before mid → IsNoTemplate mid now name fault → IsNoTemplate before now name fault
none_since before mid now name (N.NoSuchLog missing) grow h = h
none_since before mid now name (N.Fault fault) grow h = fault_since before mid now name fault grow h
none_since before mid now name N.Logs grow h = h
none_since before mid now name N.Memory grow h = h

-- so is one that wasn't
pub unfound_since : (before mid now : Option Folder) (spec : Spec) (q : Query) (fault : NoTemplate) → OnlyGrow before mid → HoldsNone mid now spec q fault → HoldsNone before now spec q fault
unfound_since before mid now spec q fault grow h = record { output = h.output; name = h.name; named = h.named; why = none_since before mid now h.name fault grow h.why }

-- a query that wasn't read stays unread
pub unread_grown : (before now later : Option Folder) (word : List ℕ) (fault : RequestFault) → OnlyGrow now later → IsTextFault before now word fault → IsTextFault before later word fault
unread_grown before now later word (R.Usage fault) grow h = h
unread_grown before now later word (R.BadName fault) grow h = h
unread_grown before now later word (R.NoSuchLog name) grow h = (h.0, h.1, gone_grown now later name grow h.2)
unread_grown before now later word (R.Query fault) grow h = (h.0, holds_grown before now later word h.0 grow h.1, h.2)
unread_grown before now later word R.Logs grow h = h
unread_grown before now later word R.Memory grow h = h
