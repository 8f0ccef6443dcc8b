-- Where a taker behind a sample stopped, and where a bad line is one too many.
use Rattle.std.proofs.Common.{◌≡◌, ◌+◌, ℕ, Bool, List, length, Option, Some, None, refl, sym, subst, inl, inr, arith}
use Rattle.lp_model.specs.Outside.{Folder, Told}
use Rattle.lp_model.specs.Reading.{Format}
use Rattle.log_reading.specs.Found.{Found}
use Rattle.log_reading.specs.Page.{IsWithin}
use Rattle.log_reading.specs.Spans.{AreKept, BadLine, OnBadLine, spans_bad}
use Rattle.log_reading.specs.UpTo.{IsNextBad, StopsUpTo, TakesUpTo, UpTo, bad_up_to, found_up_to}
use Rattle.log_reading.specs.declared.page.Page.{Page}
use Rattle.log_reading.specs.declared.span.RunFault.{RunFault}
use Rattle.log_reading.specs.declared.span.Span.{Span}
use Rattle.log_reading.proofs.Faults.{bad_line_so}
use Rattle.log_reading.proofs.Ups.{up_all}
use Rattle.column_kinds.specs.declared.phase.Phase.{Phase}
use Rattle.column_kinds.specs.declared.phase.Phase.TheVariants as P
use Rattle.column_kinds.specs.declared.phase.Sampled.{Sampled}
use Rattle.column_kinds.specs.InTurn.{BadInTurn, BehindSample}
use Rattle.column_kinds.specs.Laws.{Halts, Samples, later_same}
use Rattle.column_kinds.specs.Past.{Past, AreEnough, IsTold, nothing}
use Rattle.column_kinds.specs.Phases.{OnJudged}
use Rattle.column_kinds.specs.Sampling.{SampleKind, Rules, Holds, PhaseHolds, PhaseStopped, TakesOn}
use Rattle.column_kinds.specs.SpansTold.{SamplesSpans}
use Rattle.column_kinds.proofs.UpTo.{past_up_to, up_enough, up_founds}

-- It stopped within some first lines, among which no more are bad than may be; where the columns are judged, these have the whole sample.
pub record StopsBehind {M T O : Type 0} (kind : SampleKind M T O) (rules : Rules M) (start : O) (most_bad : Option ℕ) (format : Format) (waits : Bool) (folder : Folder) (spans : List Span) (phase : Phase M T) (now : O) : Type 0 where
  pub up : UpTo waits folder spans
  pub stopped : PhaseStopped kind rules start (past_up_to format waits folder spans nothing up) phase now
  pub judged : OnJudged phase (IsTold rules.limit (past_up_to format waits folder spans nothing up))
  pub within : IsWithin most_bad (0 + bad_up_to format waits folder spans up)

-- it has taken all of some first lines, and behind them comes this bad line, which is one too many
pub record TakesBefore {M T O : Type 0} (kind : SampleKind M T O) (rules : Rules M) (start : O) (most_bad : Option ℕ) (format : Format) (waits : Bool) (folder : Folder) (spans : List Span) (line : BadLine) (phase : Phase M T) (now : O) : Type 0 where
  pub up : UpTo waits folder spans
  pub holds : PhaseHolds kind rules start (past_up_to format waits folder spans nothing up) phase now
  pub next : IsNextBad format waits folder up.rest up.lines line
  pub most : most_bad ≡ Some (0 + bad_up_to format waits folder spans up)

module _ {M T O : Type 0} (kind : SampleKind M T O) (rules : Rules M) (start now : O) (most_bad : Option ℕ) (format : Format) (waits : Bool) where
  stops_at : (folder : Folder) (spans : List Span) (first last : Page (Sampled M T)) → first.most_bad ≡ most_bad → first.bad ≡ 0 → Holds kind rules start nothing first.taker start
      → StopsUpTo (λ (old : Sampled M T) (before : O) mets new after. Halts kind old before mets new after) format waits folder spans first last start now
      → StopsBehind kind rules start most_bad format waits folder spans last.taker.phase now
  stops_at folder spans first last most bad holds stops =
      let past = past_up_to format waits folder spans nothing stops.up in
      let count = bad_up_to format waits folder spans stops.up in
      record {
        up = stops.up;
        stopped = stops.stopped.within rules start nothing holds past (later_same past);
        judged = stops.stopped.judged rules start nothing holds;
        within = subst (λ (m : Option ℕ). IsWithin m (0 + count)) most (subst (λ (n : ℕ). IsWithin first.most_bad (n + count)) bad stops.within);
      }

  takes_at : (folder : Folder) (spans : List Span) (line : BadLine) (first last : Page (Sampled M T)) → first.most_bad ≡ most_bad → first.bad ≡ 0 → Holds kind rules start nothing first.taker start
      → TakesUpTo (λ (old : Sampled M T) (before : O) mets new after. Samples kind old before mets new after) format waits folder spans line first last start now
      → TakesBefore kind rules start most_bad format waits folder spans line last.taker.phase now
  takes_at folder spans line first last most bad holds takes =
      let count = bad_up_to format waits folder spans takes.up in
      record {
        up = takes.up;
        holds = (takes.taken.along rules start nothing holds).phase;
        next = takes.next;
        most = subst (λ (m : Option ℕ). m ≡ Some (0 + count)) most (subst (λ (n : ℕ). first.most_bad ≡ Some (n + count)) bad takes.most);
      }

  -- where the reading of logs stopped
  pub stops_behind : (told : Option Folder) (spans : List Span) (first last : Page (Sampled M T)) → first.most_bad ≡ most_bad → first.bad ≡ 0 → Holds kind rules start nothing first.taker start
      → Told told (λ folder. AreKept format waits spans folder → StopsUpTo (λ (old : Sampled M T) (before : O) mets new after. Halts kind old before mets new after) format waits folder spans first last start now)
      → Told told (λ folder. AreKept format waits spans folder → StopsBehind kind rules start most_bad format waits folder spans last.taker.phase now)
  stops_behind None spans first last most bad holds stops = tt
  stops_behind (Some folder) spans first last most bad holds stops = λ kept. stops_at folder spans first last most bad holds (stops kept)

  pub takes_before : (told : Option Folder) (spans : List Span) (fault : RunFault) (first last : Page (Sampled M T)) → first.most_bad ≡ most_bad → first.bad ≡ 0 → Holds kind rules start nothing first.taker start
      → OnBadLine fault (λ line. Told told (λ folder. AreKept format waits spans folder → TakesUpTo (λ (old : Sampled M T) (before : O) mets new after. Samples kind old before mets new after) format waits folder spans line first last start now))
      → Told told (λ folder. AreKept format waits spans folder → OnBadLine fault (λ line. TakesBefore kind rules start most_bad format waits folder spans line last.taker.phase now))
  takes_before None spans fault first last most bad holds takes = tt
  takes_before (Some folder) spans fault first last most bad holds takes = λ kept.
      bad_line_so fault (λ line. AreKept format waits spans folder → TakesUpTo (λ (old : Sampled M T) (before : O) mets new after. Samples kind old before mets new after) format waits folder spans line first last start now)
      (λ line. TakesBefore kind rules start most_bad format waits folder spans line last.taker.phase now)
      (λ line so. takes_at folder spans line first last most bad holds (so kept)) takes

  -- ---- behind the sample

  pub behind_sample : (folder : Folder) (spans : List Span) (phase : Phase M T) (So : UpTo waits folder spans → Type 0) (stops : StopsBehind kind rules start most_bad format waits folder spans phase now)
      → IsTold rules.limit (past_up_to format waits folder spans nothing stops.up) → So stops.up → BehindSample rules.limit most_bad 0 format waits folder spans So
  behind_sample folder spans phase So stops told so = record { up = stops.up; sample = inl (up_enough format waits folder rules.limit spans stops.up told); within = stops.within; so = so }

  -- ---- a bad line that is one too many

  enough_told : (past : Past) (founds : List Found) → past.founds ≡ founds → IsTold rules.limit past → AreEnough rules.limit founds
  enough_told past founds same told = subst (λ (t : List Found). AreEnough rules.limit t) same (told.some, told.enough)

  phase_within : (past : Past) (founds : List Found) (phase : Phase M T) → past.founds ≡ founds → PhaseHolds kind rules start past phase now → (AreEnough rules.limit founds → ⊥) → now ≡ start
  phase_within past founds (P.Gathering gathering) same holds few = holds.kept.nothing
  phase_within past founds (P.Taking taker) same holds few = absurd (few (enough_told past founds same holds.told))
  phase_within past founds (P.Refused fault) same holds few = absurd holds
  phase_within past founds P.Lost same holds few = absurd holds

  phase_behind : (past : Past) (founds : List Found) (phase : Phase M T) (Q : Type 0) → past.founds ≡ founds → PhaseHolds kind rules start past phase now → ((taker : T) → TakesOn kind rules start past taker now → Q) → AreEnough rules.limit founds → Q
  phase_behind past founds (P.Gathering gathering) Q same holds so enough = absurd (holds.waiting (subst (λ (t : List Found). AreEnough rules.limit t) (sym same) enough))
  phase_behind past founds (P.Taking taker) Q same holds so enough = so taker holds
  phase_behind past founds (P.Refused fault) Q same holds so enough = absurd holds
  phase_behind past founds P.Lost Q same holds so enough = absurd holds

  -- within the sample nothing has come out, and behind it the taker has taken all before
  pub bad_in_turn : (folder : Folder) (spans : List Span) (line : BadLine) (phase : Phase M T) (Behind : List Found → Type 0) (takes : TakesBefore kind rules start most_bad format waits folder spans line phase now)
      → ((taker : T) → TakesOn kind rules start (past_up_to format waits folder spans nothing takes.up) taker now → Behind (found_up_to format waits folder spans takes.up))
      → BadInTurn rules.limit most_bad 0 format waits folder spans line (now ≡ start) Behind
  bad_in_turn folder spans line phase Behind takes so =
      let past = past_up_to format waits folder spans nothing takes.up in
      let founds = found_up_to format waits folder spans takes.up in
      let same = up_founds format waits folder spans nothing takes.up in
      record {
        up = takes.up;
        next = takes.next;
        most = takes.most;
        within = phase_within past founds phase same takes.holds;
        behind = phase_behind past founds phase (Behind founds) same takes.holds so;
      }

-- all lines were read
pub behind_lines : (limit : ℕ) (most_bad : Option ℕ) (format : Format) (waits : Bool) (folder : Folder) (spans : List Span) (So : UpTo waits folder spans → Type 0)
    → IsWithin most_bad (length (spans_bad format waits folder spans)) → So (up_all waits folder spans) → BehindSample limit most_bad 0 format waits folder spans So
behind_lines limit most_bad format waits folder spans So within so =
    let count = length (spans_bad format waits folder spans) in
    let same : count ≡ 0 + (count + 0) = omega arith in
    record { up = up_all waits folder spans; sample = inr refl; within = subst (IsWithin most_bad) same within; so = so }

-- their bad lines are no more than may be
pub bad_within : {M T O : Type 0} (kind : SampleKind M T O) (format : Format) (waits : Bool) (told : Option Folder) (spans : List Span) (first last : Page (Sampled M T)) (u v : O) (most_bad : Option ℕ) → first.bad ≡ 0 → IsWithin most_bad last.bad
    → Told told (λ folder. AreKept format waits spans folder → SamplesSpans kind format waits folder spans first last u v)
    → Told told (λ folder. AreKept format waits spans folder → IsWithin most_bad (length (spans_bad format waits folder spans)))
bad_within kind format waits None spans first last u v most_bad none within taken = tt
bad_within kind format waits (Some folder) spans first last u v most_bad none within taken = λ kept.
    let bad_now = (taken kept).bad in
    let many : last.bad ≡ length (spans_bad format waits folder spans) = omega (arith, none, bad_now) in
    subst (IsWithin most_bad) many within
