-- What an answer says of words with a checkpoint, and of any words.
use Rattle.std.proofs.Common.{◌≡◌, ℕ, ℤ, Bool, true, false, List, ◌++◌, Option, Some, None, Result, Ok, Err, IfOk, inl, inr, refl, sym, ◌∙◌, subst}
use Rattle.std.specs.Prelude.{codes, ◌&&◌, if◌then◌else◌, is_none, option_and_then}
use Rattle.disk_model.specs.Disk.{DiskState}
use Rattle.grammar.specs.Trees as model
use Rattle.lp_model.specs.Outside.{Folder, Rose}
use Rattle.lp_outside.specs.NameFault.{name_fault}
use Rattle.lp_outside.specs.declared.name.NameFault.{NameFault}
use Rattle.command_words.specs.Table.{IsAsked}
use Rattle.command_words.specs.Usage.{AreFine}
use Rattle.command_words.specs.Values.{ledger_in, is_name}
use Rattle.command_words.specs.Words.{given, query_in}
use Rattle.command_words.specs.declared.setting.Setting.TheVariants as W
use Rattle.command_words.specs.declared.spec.Spec.{Spec}
use Rattle.query_run.specs.declared.executing.Counts.{Counts}
use Rattle.reports.specs.declared.status.Status.{Status}
use Rattle.reports.specs.declared.status.Status.TheVariants as S
use Rattle.requests.specs.Files.{IsTextFault}
use Rattle.requests.specs.Requests.{Asks, IsRequestFault, IsWordsFault}
use Rattle.requests.specs.Texts.{HoldsQuery}
use Rattle.requests.specs.declared.fault.RequestFault.{RequestFault}
use Rattle.requests.specs.declared.fault.RequestFault.TheVariants as R
use Rattle.checkpointed_command.specs.Statuses.{unasked}
use Rattle.logparser_cli.specs.Kept.{Answers, AnswersLedger, IsPlain, answer_of}
use Rattle.logparser_cli.specs.Outputs.{World}
use Rattle.logparser_cli.specs.Whole.{Tells, told_statistics}
use Rattle.logparser_cli.proofs.Answering.{told_answers, with_err}

-- the stage beside the ledger of words has a name

stage_good : (a b : Bool) (text ledger : List ℕ) → (if a && b then Some text else None) ≡ Some ledger → (b ≡ true) × (text ≡ ledger)
stage_good true true text ledger e = (refl, cc)
stage_good true false text ledger e = absurd cc
stage_good false b text ledger e = absurd cc

no_fault : (o : Option NameFault) → is_none o ≡ true → o ≡ None
no_fault None e = refl
no_fault (Some fault) e = absurd cc

named_by : (o : Option (List ℕ)) (ledger : List ℕ) → option_and_then ledger_in o ≡ Some ledger → name_fault (ledger ++ codes ".stage") ≡ None
named_by None ledger e = absurd cc
named_by (Some text) ledger e =
    let good = stage_good (is_name text) (is_name (text ++ codes ".stage")) text ledger e in
    subst (λ (name : List ℕ). name_fault (name ++ codes ".stage") ≡ None) good.1 (no_fault (name_fault (text ++ codes ".stage")) good.0)

pub stage_named : (words : List (List ℕ)) (spec : Spec) (ledger : List ℕ) → IsAsked words spec → spec.checkpoint ≡ Some ledger → name_fault (ledger ++ codes ".stage") ≡ None
stage_named words spec ledger asked kept = named_by (given W.Checkpoint words) ledger (sym asked.checkpoint ∙ kept)

-- a query that was read is what the words ask for
pub asks_by : (before now : Option Folder) (words : List (List ℕ)) (spec : Spec) (text : List ℕ) (q : model.Query) → AreFine words → IsAsked words spec → HoldsQuery before now spec.query text q → Asks before now words spec q
asks_by before now words spec text q fine options holds =
    let here : HoldsQuery before now (query_in words) text q = subst (λ (word : List ℕ). HoldsQuery before now word text q) options.query holds in
    record { fine = fine; options = options; text = text; holds = here.holds; query = here.query; only = here.only }

text_refused : (before now : Option Folder) (words : List (List ℕ)) (fault : RequestFault) → AreFine words → IsTextFault before now (query_in words) fault → IsRequestFault before now words fault
text_refused before now words (R.Usage fault) fine h = absurd h
text_refused before now words (R.BadName fault) fine h = (h.0, record { fine = fine; file = h.1 }, h.2)
text_refused before now words (R.NoSuchLog name) fine h = (record { fine = fine; file = h.0 }, h.1, h.2)
text_refused before now words (R.Query fault) fine h = record { fine = fine; text = h.0; holds = h.1; fault = h.2 }
text_refused before now words R.Logs fine h = tt
text_refused before now words R.Memory fine h = tt

-- one that wasn't is why they ask for none
pub refused_by : (before now : Option Folder) (words : List (List ℕ)) (spec : Spec) (fault : RequestFault) → AreFine words → IsAsked words spec → IsTextFault before now spec.query fault → IsRequestFault before now words fault
refused_by before now words spec fault fine options h = text_refused before now words fault fine (subst (λ (word : List ℕ). IsTextFault before now word fault) options.query h)

-- words that are refused are so whatever they ask for
pub early_refused : {D : Type 0} (disk : D) (before now : Option Folder) (words : List (List ℕ)) (fault : RequestFault) → IsWordsFault words fault → IsPlain disk disk words (unasked fault) × IsRequestFault before now words fault
early_refused disk before now words (R.Usage fault) h = (inr (tt, refl), h)
early_refused disk before now words (R.BadName fault) h = absurd h
early_refused disk before now words (R.NoSuchLog name) h = absurd h
early_refused disk before now words (R.Query fault) h = absurd h
early_refused disk before now words R.Logs h = absurd h
early_refused disk before now words R.Memory h = (inr (tt, refl), tt)

pub no_logs_fault : (words : List (List ℕ)) (fault : RequestFault) → IsWordsFault words fault → fault ≡ R.Logs → ⊥
no_logs_fault words fault h e = subst (IsWordsFault words) e h

pub done_is_no_fault : (S.Done ≡ S.LogsFault → ⊥) × (S.Done ≡ S.DiskFault → ⊥)
done_is_no_fault = (λ e. cc, λ e. cc)

-- a refusal says the same once it is told

counts_told : (result : Result Counts Status) (P Q : Counts → Type 0) → (answer_of result ≡ S.Done → ⊥) → IfOk result P → IfOk result Q
counts_told (Ok counts) P Q refused p = absurd (refused refl)
counts_told (Err status) P Q refused p = tt

ledger_told : {D : Type 0} (state : D → DiskState) (old new : D) (spec : Spec) (ledger : List ℕ) (moment : ℤ) (before now : Option Folder) (err told more : Option (List ℕ)) (logs disk rose rises : Type 0) (status : Status) → (status ≡ S.Done → ⊥)
    → AnswersLedger state old new spec ledger moment before now err told logs disk rose status → AnswersLedger state old new spec ledger moment before now err more logs disk rises status
ledger_told state old new spec ledger moment before now err told more logs disk rose rises status refused a = record {
  result = a.result;
  status_is = a.status_is;
  step = a.step;
  whole = a.whole;
  refused = a.refused;
  told_counts = counts_told a.result (λ counts. Tells err told (told_statistics spec.stats counts) rose) (λ counts. Tells err more (told_statistics spec.stats counts) rises) (λ e. refused (a.status_is ∙ e)) a.told_counts;
  logs = a.logs;
  disk = a.disk;
}

pub told_all : {D : Type 0} (state : D → DiskState) (disk disk_now : D) (old new : World) (err : Option (List ℕ)) (faults : ℕ) (moment : ℤ) (words : List (List ℕ)) (status : Status) → (status ≡ S.Done → ⊥)
    → Answers state disk disk_now moment words old new status → Answers state disk disk_now moment words old (with_err new err faults) status
told_all state disk disk_now old new err faults moment words status refused (inl (plain, a)) = inl (plain, told_answers old new err faults moment words status refused a)
told_all state disk disk_now old new err faults moment words status refused (inr k) = inr (record {
  now = k.now;
  spec = k.spec;
  fine = k.fine;
  options = k.options;
  ledger = k.ledger;
  is_kept = k.is_kept;
  out = k.out;
  answers = ledger_told state disk disk_now k.spec k.ledger moment old.folder new.folder old.err new.err err (Rose old.logs_faults new.logs_faults) (Rose old.disk_faults new.disk_faults) (Rose old.err_faults new.err_faults) (Rose old.err_faults faults) status refused k.answers;
})
