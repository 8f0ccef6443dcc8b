-- What holds of a sample before its first record, and behind the records of a log.
use Rattle.std.proofs.Common.{◌≡◌, ℕ, List, [], ◌∷◌, map, Option, Some, ap, sym, ◌∙◌, subst}
use Rattle.lp_model.specs.Reading.{Columns}
use Rattle.log_reading.specs.Found.{log_ended}
use Rattle.column_kinds.specs.declared.kept.FirstLog.{FirstLog}
use Rattle.column_kinds.specs.declared.phase.Phase.{Phase}
use Rattle.column_kinds.specs.declared.phase.Phase.TheVariants as P
use Rattle.column_kinds.specs.declared.phase.Sampled.{Sampled}
use Rattle.column_kinds.specs.Kept.{found_in}
use Rattle.column_kinds.specs.Laws.{Halts, IsTaker, judged_so, later_noted, later_trans, phase_judged, phase_stopped, told_later}
use Rattle.column_kinds.specs.Noting.{Notes, NotesIn}
use Rattle.column_kinds.specs.Past.{Past, IsTold, log_with, noted, or_first}
use Rattle.column_kinds.specs.Phases.{OnJudged}
use Rattle.column_kinds.specs.Sampling.{SampleKind, Rules, Holds, PhaseHolds, PhaseStopped, TakesOn}

noted_known : (past : Past) (log : FirstLog) (identity : List ℕ) (columns : Option Columns) → past.first ≡ Some log → noted past identity columns ≡ past
noted_known past log identity columns known =
    let same : or_first past.first (log_with identity columns) ≡ past.first = ap (λ (f : Option FirstLog). or_first f (log_with identity columns)) known ∙ sym known in
    let Of : Option FirstLog → Past = λ f. record { first = f; founds = past.founds } in
    ap Of same

notes_phase : {M T O : Type 0} (kind : SampleKind M T O) (rules : Rules M) (start : O) (past : Past) (identity : List ℕ) (columns : Option Columns) (old new : Phase M T) (now : O)
    → NotesIn identity columns old new → PhaseHolds kind rules start past old now → PhaseHolds kind rules start (noted past identity columns) new now
notes_phase kind rules start past identity columns (P.Gathering old) (P.Gathering new) now notes holds = record {
  kept = record {
    maker = notes.maker ∙ holds.kept.maker;
    first = notes.first ∙ ap (λ (f : Option FirstLog). or_first f (log_with identity columns)) holds.kept.first;
    rows = ap (map found_in) notes.rows ∙ holds.kept.rows;
    nothing = holds.kept.nothing;
  };
  waiting = holds.waiting;
}
notes_phase kind rules start past identity columns (P.Gathering old) (P.Taking taker) now notes holds = absurd notes
notes_phase kind rules start past identity columns (P.Gathering old) (P.Refused fault) now notes holds = absurd notes
notes_phase kind rules start past identity columns (P.Gathering old) P.Lost now notes holds = absurd notes
notes_phase {M = M} {T = T} kind rules start past identity columns (P.Taking taker) new now notes holds =
    let told = holds.told in
    let Of : Phase M T → Type 0 = λ p. PhaseHolds kind rules start (noted past identity columns) p now in
    subst Of (sym notes) (subst (λ (p : Past). TakesOn kind rules start p taker now) (sym (noted_known past told.log identity columns told.known)) holds)
notes_phase kind rules start past identity columns (P.Refused fault) new now notes holds = absurd holds
notes_phase kind rules start past identity columns P.Lost new now notes holds = absurd holds

-- a log's columns were noted
pub notes_hold : {M T O : Type 0} (kind : SampleKind M T O) (rules : Rules M) (start : O) (past : Past) (identity : List ℕ) (columns : Option Columns) (old new : Sampled M T) (now : O)
    → Notes identity columns old new → Holds kind rules start past old now → Holds kind rules start (noted past identity columns) new now
notes_hold kind rules start past identity columns old new now notes holds = record {
  asks = record { limit_is = notes.limit ∙ holds.asks.limit_is; pattern_is = notes.pattern ∙ holds.asks.pattern_is };
  phase = notes_phase kind rules start past identity columns old.phase new.phase now notes.phase holds.phase;
}

-- the end of a log couldn't be noted
pub ended_lost : {M T O : Type 0} (kind : SampleKind M T O) (laws : IsTaker kind) (old new : Sampled M T) (now : O) (identity : List ℕ) (columns : Option Columns)
    → new.phase ≡ old.phase → Halts kind old now (log_ended identity columns ∷ []) new now
ended_lost {M = M} {T = T} kind laws old new now identity columns same = record {
  within = λ rules start past holds later follows.
      let Of : Phase M T → Type 0 = λ p. PhaseStopped kind rules start later p now in
      subst Of (sym same) (phase_stopped kind laws rules start now past later old.phase (later_trans past (noted past identity columns) later (later_noted past identity columns) follows) holds.phase);
  judged = λ rules start past holds.
      let next = noted past identity columns in
      let Of : Phase M T → Type 0 = λ p. OnJudged p (IsTold rules.limit next) in
      subst Of (sym same)
      (judged_so old.phase (IsTold rules.limit past) (IsTold rules.limit next) (λ is. told_later rules.limit past next is (later_noted past identity columns)) (phase_judged kind rules start now past old.phase holds.phase));
}
