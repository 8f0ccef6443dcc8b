-- What a run answers makes it a call of each world whose logs are those of the run.
use Rattle.std.proofs.Common.{◌≡◌, ⊎_elim, ℕ, ℤ, Bool, true, false, List, Option, Some, None, Result, IfErr, sym, ◌∙◌, inl, inr, subst}
use Rattle.grammar.specs.Trees as model
use Rattle.command_words.specs.Table.{checkpoint_of}
use Rattle.command_words.specs.declared.spec.Spec.{Spec}
use Rattle.command_words.specs.Usage.{AreFine}
use Rattle.command_words.specs.declared.usage.UsageFault.{UsageFault}
use Rattle.command_words.proofs.Refusals.{never_both}
use Rattle.logparser_cli.specs.Refusals.{IsCallRefused}
use Rattle.logparser_cli.specs.Steps.{TakesSteps}
use Rattle.query_run.specs.declared.executing.Counts.{Counts}
use Rattle.disk_model.specs.Disk.{DiskState}
use Rattle.logparser_cli.specs.Built.{reads_stdin}
use Rattle.query_text.specs.Stdin.{names_in}
use Rattle.tpl_output.specs.Sections.{Sections}
use Rattle.logparser_cli.specs.Answers.{Asked, AnswersOf, AnswersOver, AnswersPlainly}
use Rattle.logparser_cli.specs.Kept.{stage_beside, AnswersKept, Answers, IsEarly}
use Rattle.logparser_cli.specs.Outputs.{World}
use Rattle.logparser_cli.specs.Subqueries.{ungiven}
use Rattle.logparser_cli.specs.SubqueryFault.{SubqueryFault}
use Rattle.logparser_cli.specs.SubqueryFault.TheVariants as F
use Rattle.lp_model.specs.Outside.{Folder}
use Rattle.reports.specs.declared.status.Status.{Status}
use Rattle.reports.specs.declared.status.Status.TheVariants as S
use Rattle.run_model.specs.Logs.{Logs}
use Rattle.run_model.specs.Steps.{Setting, Gain}
use Rattle.headline.proofs.Refused.{done_counts}
use Rattle.headline.specs.Calls.{NamesAre, IsUnbegun, CallSteps, Called, IsCall}

-- a run's answer tells of no clock, and of no word
over_no_clock : (stdin : Bool) (old new : World) (template : Sections) (spec : Spec) (moment : ℤ) (q : model.Query) (at : ℤ) → AnswersOf stdin old new template spec moment q (S.Clock at) → ⊥
over_no_clock false old new template spec moment q at s = s
over_no_clock true old new template spec moment q at (inl s) = s.1
over_no_clock true old new template spec moment q at (inr (inl s)) = let same = s.0 in cc
over_no_clock true old new template spec moment q at (inr (inr s)) = let same = s.0 in cc

over_no_usage : (stdin : Bool) (old new : World) (template : Sections) (spec : Spec) (moment : ℤ) (q : model.Query) (fault : UsageFault) → AnswersOf stdin old new template spec moment q (S.Usage fault) → ⊥
over_no_usage false old new template spec moment q fault s = s
over_no_usage true old new template spec moment q fault (inl s) = s.1
over_no_usage true old new template spec moment q fault (inr (inl s)) = let same = s.0 in cc
over_no_usage true old new template spec moment q fault (inr (inr s)) = let same = s.0 in cc

-- nor does the refusal of a subquery
no_given_clock : (fault : SubqueryFault) (at : ℤ) → S.Clock at ≡ ungiven fault → ⊥
no_given_clock (F.BadName fault) at same = cc
no_given_clock (F.NoSuchLog name) at same = cc
no_given_clock F.TooManyLogs at same = cc
no_given_clock (F.Clash name) at same = cc
no_given_clock (F.Plan fault) at same = cc
no_given_clock (F.Bad log row) at same = cc
no_given_clock F.Logs at same = cc
no_given_clock F.Memory at same = cc

no_given_usage : (fault : SubqueryFault) (word : UsageFault) → S.Usage word ≡ ungiven fault → ⊥
no_given_usage (F.BadName fault) word same = cc
no_given_usage (F.NoSuchLog name) word same = cc
no_given_usage F.TooManyLogs word same = cc
no_given_usage (F.Clash name) word same = cc
no_given_usage (F.Plan fault) word same = cc
no_given_usage (F.Bad log row) word same = cc
no_given_usage F.Logs word same = cc
no_given_usage F.Memory word same = cc

given_no_clock : (old new : World) (template : Sections) (spec : Spec) (moment : ℤ) (q : model.Query) (at : ℤ) → AnswersOver old new template spec moment q (S.Clock at) → ⊥
given_no_clock old new template spec moment q at (inl u) = u.unlisted
given_no_clock old new template spec moment q at (inr (inl u)) = no_given_clock u.refused.refused.fault at u.refused.refused.status_is
given_no_clock old new template spec moment q at (inr (inr r)) = over_no_clock (reads_stdin (names_in q)) old new template spec moment r.whole at r.answers

given_no_usage : (old new : World) (template : Sections) (spec : Spec) (moment : ℤ) (q : model.Query) (fault : UsageFault) → AnswersOver old new template spec moment q (S.Usage fault) → ⊥
given_no_usage old new template spec moment q fault (inl u) = u.unlisted
given_no_usage old new template spec moment q fault (inr (inl u)) = no_given_usage u.refused.refused.fault fault u.refused.refused.status_is
given_no_usage old new template spec moment q fault (inr (inr r)) = over_no_usage (reads_stdin (names_in q)) old new template spec moment r.whole fault r.answers

-- a query's answer tells of no clock
no_clock : (moment : ℤ) (old new : World) (words : List (List ℕ)) (at : ℤ) → Asked moment old new words (S.Clock at) → ⊥
no_clock moment old new words at a = ⊎_elim (λ unread. unread.refused.refused) (λ read. given_no_clock old new read.template a.spec moment a.q at read.answers) a.answers

-- and of no word
no_usage : (moment : ℤ) (old new : World) (words : List (List ℕ)) (fault : UsageFault) → Asked moment old new words (S.Usage fault) → ⊥
no_usage moment old new words fault a = ⊎_elim (λ unread. unread.refused.refused) (λ read. given_no_usage old new read.template a.spec moment a.q fault read.answers) a.answers

-- so what is answered early to words that are fine tells of the moment or of memory
unbegun : (moment : ℤ) (old new : World) (words : List (List ℕ)) (status : Status) → AreFine words → IsEarly status → AnswersPlainly moment words old new status → IsUnbegun moment status
unbegun moment old new words S.Memory fine early answers = tt
unbegun moment old new words (S.Clock at) fine early (inl clock) = let same : S.Clock at ≡ S.Clock moment = clock.same in let is : at ≡ moment = cc in (is, clock.none)
unbegun moment old new words (S.Clock at) fine early (inr (now, inl unasked)) = absurd unasked
unbegun moment old new words (S.Clock at) fine early (inr (now, inr asked)) = absurd (no_clock moment old new words at asked)
unbegun moment old new words (S.Usage fault) fine early (inl clock) = let same : S.Usage fault ≡ S.Clock moment = clock.same in cc
unbegun moment old new words (S.Usage fault) fine early (inr (now, inl unasked)) = absurd (never_both words fault fine unasked.0)
unbegun moment old new words (S.Usage fault) fine early (inr (now, inr asked)) = absurd (no_usage moment old new words fault asked)
unbegun moment old new words S.Done fine early answers = absurd early
unbegun moment old new words (S.Query fault) fine early answers = absurd early
unbegun moment old new words (S.NoSuchLog name) fine early answers = absurd early
unbegun moment old new words (S.BadName fault) fine early answers = absurd early
unbegun moment old new words (S.NameClash name) fine early answers = absurd early
unbegun moment old new words S.TooManyOutputs fine early answers = absurd early
unbegun moment old new words S.TooManyLogs fine early answers = absurd early
unbegun moment old new words (S.Template fault) fine early answers = absurd early
unbegun moment old new words S.InputTooLong fine early answers = absurd early
unbegun moment old new words S.LogsFault fine early answers = absurd early
unbegun moment old new words S.SourceFault fine early answers = absurd early
unbegun moment old new words S.DiskFault fine early answers = absurd early
unbegun moment old new words S.SinkFault fine early answers = absurd early
unbegun moment old new words (S.ParseErrors log row) fine early answers = absurd early
unbegun moment old new words (S.LostLog stem number) fine early answers = absurd early
unbegun moment old new words (S.Shrunk lost kept found) fine early answers = absurd early
unbegun moment old new words (S.InputChanged kept given) fine early answers = absurd early
unbegun moment old new words S.IntoNeeded fine early answers = absurd early
unbegun moment old new words (S.LedgerFault part place) fine early answers = absurd early

module _ {D : Type 0} (state : D → DiskState) (words : List (List ℕ)) (moment : ℤ) (status : Status) (old new : D) (was is : World) (setting : Setting) (before after : Logs)
    (told : was.folder ≡ Some before.folder) (now : is.folder ≡ Some after.folder) (ledger_is : checkpoint_of words ≡ Some setting.ledger) (stage_is : setting.stage ≡ stage_beside setting.ledger) where
  -- why it came to no counts, in the words of the world
  refused_so : (spec : Spec) (ledger : List ℕ) (began ended : Option Folder) (result : Result Counts Status) → ledger ≡ setting.ledger → began ≡ Some before.folder → ended ≡ Some after.folder
      → IfErr result (IsCallRefused state old ledger (stage_beside ledger) began ended spec moment) → IfErr result (IsCallRefused state old setting.ledger setting.stage (Some before.folder) (Some after.folder) spec moment)
  refused_so spec ledger began ended result same from to refused =
      let named = subst (λ (l : List ℕ). IfErr result (IsCallRefused state old l (stage_beside l) began ended spec moment)) same refused in
      let staged = subst (λ (s : List ℕ). IfErr result (IsCallRefused state old setting.ledger s began ended spec moment)) (sym stage_is) named in
      let begun = subst (λ (f : Option Folder). IfErr result (IsCallRefused state old setting.ledger setting.stage f ended spec moment)) from staged in
      subst (λ (f : Option Folder). IfErr result (IsCallRefused state old setting.ledger setting.stage (Some before.folder) f spec moment)) to begun

  kept_steps : AnswersKept state old new moment words was is status → CallSteps state setting words moment status before after old new
  kept_steps kept =
      let a = kept.answers in
      let both : Some kept.ledger ≡ Some setting.ledger = sym kept.is_kept ∙ (kept.options.checkpoint ∙ ledger_is) in
      let same : kept.ledger ≡ setting.ledger = cc in
      let over : TakesSteps kept.spec setting.ledger (stage_beside setting.ledger) moment was.folder is.folder (state old) (state new) a.result =
      subst (λ (l : List ℕ). TakesSteps kept.spec l (stage_beside l) moment was.folder is.folder (state old) (state new) a.result) same a.step in
      let staged : TakesSteps kept.spec setting.ledger setting.stage moment was.folder is.folder (state old) (state new) a.result =
      subst (λ (s : List ℕ). TakesSteps kept.spec setting.ledger s moment was.folder is.folder (state old) (state new) a.result) (sym stage_is) over in
      let begun : TakesSteps kept.spec setting.ledger setting.stage moment (Some before.folder) is.folder (state old) (state new) a.result =
      subst (λ (f : Option Folder). TakesSteps kept.spec setting.ledger setting.stage moment f is.folder (state old) (state new) a.result) told staged in
      record {
        spec = kept.spec;
        options = kept.options;
        result = a.result;
        status_is = a.status_is;
        refused = refused_so kept.spec kept.ledger was.folder is.folder a.result same told now a.refused;
        steps = subst (λ (f : Option Folder). TakesSteps kept.spec setting.ledger setting.stage moment (Some before.folder) f (state old) (state new) a.result) now begun;
        done = done_counts state old kept.ledger (stage_beside kept.ledger) was.folder is.folder kept.spec moment status a.result a.status_is a.refused;
      }

  not_plain : checkpoint_of words ≡ None → ⊥
  not_plain none = let e : None ≡ Some setting.ledger = sym none ∙ ledger_is in cc

  pub called : AreFine words → Gain setting.rotation setting.parting before after → NamesAre setting words moment before after (state old) → Answers state old new moment words was is status → Called state setting words moment status before after old new
  called fine gain names_are answers = record {
    fine = fine;
    ledger_is = ledger_is;
    stage_is = stage_is;
    gain = gain;
    names_are = names_are;
    does = ⊎_elim (λ plain. ⊎_elim (λ none. absurd (not_plain none)) (λ early. inl (unbegun moment was is words status fine early.0 plain.1, early.1)) plain.0) (λ kept. inr (kept_steps kept)) answers;
  }

pub is_call : {D : Type 0} (state : D → DiskState) (words : List (List ℕ)) (moment : ℤ) (status : Status) (old new : D) (was is : World) → Answers state old new moment words was is status → IsCall state words moment status was.folder is.folder old new
is_call state words moment status old new was is answers = λ setting before after told now fine ledger_is stage_is gain names_are.
    called state words moment status old new was is setting before after told now ledger_is stage_is fine gain names_are answers
