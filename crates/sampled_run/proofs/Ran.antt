-- A whole run, from the first log to the end of the text.
use Rattle.std.specs.Prelude.{⊤}
use Rattle.std.proofs.Common.{◌≡◌, ℕ, Bool, List, length, Option, Some, None, ap, sym, ◌∙◌, refl, subst, arith, inl, inr}
use Rattle.lp_model.specs.Outside.{Folder, Told}
use Rattle.lp_model.specs.Reading.{Format}
use Rattle.log_reading.specs.declared.page.Page.{Page}
use Rattle.log_reading.specs.declared.span.RunFault.{RunFault}
use Rattle.log_reading.specs.declared.span.RunFault.TheVariants as R
use Rattle.log_reading.specs.declared.span.Span.{Span}
use Rattle.log_reading.specs.Page.{IsWithin}
use Rattle.log_reading.specs.Found.{Found}
use Rattle.log_reading.specs.Spans.{AreKept, BadLine, OnBadLine, bad_line, spans_bad}
use Rattle.log_reading.specs.UpTo.{StopsUpTo, TakesUpTo, found_up_to}
use Rattle.log_reading.proofs.Ups.{found_up_all, up_all}
use Rattle.text_output.specs.Output.{StageKind}
use Rattle.row_output.specs.Rows.{IsRefused as IsRefusedOutput}
use Rattle.row_output.specs.declared.fault.Refused.{Refused}
use Rattle.query_run.specs.declared.executing.Written.{Written}
use Rattle.query_run.specs.declared.writer.Writer.{Writer}
use Rattle.column_kinds.proofs.SetsOnce.{SetsOnce}
use Rattle.column_kinds.proofs.Behind.{behind_all, behind_founds}
use Rattle.column_kinds.proofs.InTurn.{StopsBehind, TakesBefore, bad_in_turn, bad_within, behind_lines, behind_sample, stops_behind, takes_before}
use Rattle.column_kinds.proofs.UpTo.{past_up_to, up_founds, up_stays}
use Rattle.column_kinds.specs.Laws.{Samples, later_same}
use Rattle.column_kinds.specs.Laws.{Halts as SampleHalts}
use Rattle.column_kinds.specs.declared.maker.Stop.{Stop}
use Rattle.column_kinds.specs.declared.maker.Stop.TheVariants as Why
use Rattle.column_kinds.specs.Past.{Past}
use Rattle.column_kinds.specs.Sampling.{Holds}
use Rattle.column_kinds.specs.Sampling.{Rules as SampleRules, PhaseStopped as SamplePhase, StopsAs}
use Rattle.column_kinds.specs.Spans.{past_behind, past_of}
use Rattle.column_kinds.specs.SpansTold.{SamplesSpans, HaltsIn, spans_told}
use Rattle.column_kinds.specs.declared.phase.Phase.{Phase}
use Rattle.column_kinds.specs.declared.phase.Phase.TheVariants as P
use Rattle.column_kinds.specs.declared.phase.Sampled.{Sampled}
use Rattle.sampled_table.specs.declared.picking.SampledPicker.{SampledPicker}
use Rattle.sampled_run.specs.declared.fault.SampleFault.{SampleFault}
use Rattle.sampled_run.specs.declared.fault.SampleFault.TheVariants as F
use Rattle.sampled_run.specs.declared.row_maker.RowMaker.{RowMaker}
use Rattle.sampled_run.specs.Kinds.{Fits, run_rules, writer_kind}
use Rattle.sampled_run.specs.Ran.{IsFront, IsOfEnd, IsSampled, IsStoppedBy, IsWritten, OnBadOne, fault_in, fault_of, read_fault, refused_in}
use Rattle.sampled_run.specs.InTurn.{ArePlaced, ComesInTurn, IsUnplacedAt}
use Rattle.sampled_run.specs.Rules.{Rules, rows_with, told_at}
use Rattle.sampled_run.proofs.Faults.{bad_read, read_logs, read_output, refused_end}
use Rattle.sampled_run.proofs.Fresh.{Begins, nothing}
use Rattle.sampled_run.proofs.Puts.{front_is, placed_is, refused_is, stops_is, unplaced_at, writer_stopped}

abbrev pub SampledWriter : Type 0 → Type 0
SampledWriter S = Sampled (RowMaker S) (Writer SampledPicker)

-- ---- all rows

pub ran : {S : Type 0} (kind : StageKind S) (asked : Rules) (format : Format) (waits : Bool) (told : Option Folder) (spans : List Span) (first last : Page (SampledWriter S)) (u mid after : S) (run : Written)
    → Begins kind asked first.taker u → first.rows ≡ 0 → first.bad ≡ 0 → run.counts.processed ≡ last.rows → run.counts.bad ≡ last.bad
    → Told told (λ folder. AreKept format waits spans folder → SamplesSpans (writer_kind kind) format waits folder spans first last u mid)
    → ((rules : SampleRules (RowMaker S)) (begin : S) (past : Past) → Fits rules → Holds (writer_kind kind) rules begin past last.taker mid → IsWritten kind (run_rules rules) begin past run.counts.output run.outputs after)
    → Told told (λ folder. AreKept format waits spans folder → IsSampled kind asked u (past_behind format waits folder nothing spans) format waits folder spans run after)
ran kind asked format waits None spans first last u mid after run begins rows bad processed bads taken ends = tt
ran kind asked format waits (Some folder) spans first last u mid after run begins rows bad processed bads taken ends = λ kept.
    let all = taken kept in
    let past = past_behind format waits folder nothing spans in
    let rows_now = all.rows in
    let bad_now = all.bad in
    let founds = ap length (behind_founds format waits folder nothing spans) in
    let By : Rules → Type 0 = λ rules. IsWritten kind rules u past run.counts.output run.outputs after in
    record {
      written = subst By begins.same (ends begins.rules u past begins.fits (all.along begins.rules u nothing begins.holds));
      processed = omega arith;
      bad = omega arith;
    }

-- ---- a run that stopped

read_front : {S : Type 0} (kind : StageKind S) (rules : Rules) (start : S) (past : Past) (fault : RunFault) (now : S) → IsFront kind rules start past now → IsStoppedBy kind rules start past (read_fault fault None) now
read_front kind rules start past R.Memory now front = front
read_front kind rules start past R.Logs now front = front
read_front kind rules start past R.Output now front = front
read_front kind rules start past R.Stopped now front = front
read_front kind rules start past (R.Bad log row) now front = front

read_taking : {S : Type 0} (kind : StageKind S) (rules : SampleRules (RowMaker S)) (begin : S) (past : Past) (writer : Writer SampledPicker) (fault : RunFault) (now : S) → Fits rules → StopsAs (writer_kind kind) rules begin past writer now
    → IsStoppedBy kind (run_rules rules) begin past (read_fault fault writer.refused) now
read_taking kind rules begin past writer R.Memory now fits stops = inr (stops_is kind rules begin past writer now fits stops)
read_taking kind rules begin past writer R.Logs now fits stops = inr (stops_is kind rules begin past writer now fits stops)
read_taking kind rules begin past writer R.Output now fits stops = inr (stops_is kind rules begin past writer now fits stops)
read_taking kind rules begin past writer R.Stopped now fits stops = writer_stopped kind rules begin past writer writer.refused now fits refl stops
read_taking kind rules begin past writer (R.Bad log row) now fits stops = inr (stops_is kind rules begin past writer now fits stops)

phase_stopped : {S : Type 0} (kind : StageKind S) (rules : SampleRules (RowMaker S)) (begin : S) (past : Past) (phase : Phase (RowMaker S) (Writer SampledPicker)) (fault : RunFault) (now : S)
    → Fits rules → SamplePhase (writer_kind kind) rules begin past phase now → IsStoppedBy kind (run_rules rules) begin past (fault_in phase fault) now
phase_stopped kind rules begin past (P.Gathering gathering) fault now fits stopped = read_front kind (run_rules rules) begin past fault now (front_is kind rules begin past now fits stopped)
phase_stopped kind rules begin past (P.Taking writer) fault now fits stopped = read_taking kind rules begin past writer fault now fits stopped
phase_stopped kind rules begin past (P.Refused plan) fault now fits stopped = refused_is kind rules begin past plan now stopped
phase_stopped kind rules begin past P.Lost fault now fits stopped = read_front kind (run_rules rules) begin past fault now (front_is kind rules begin past now fits stopped)

pub stopped_reading : {S : Type 0} (kind : StageKind S) (asked : Rules) (format : Format) (waits : Bool) (told : Option Folder) (spans : List Span) (first last : Page (SampledWriter S)) (u now : S) (fault : RunFault)
    → Begins kind asked first.taker u
    → Told told (λ folder. AreKept format waits spans folder → HaltsIn (writer_kind kind) (spans_told format waits folder spans) first.taker last.taker u now)
    → Told told (λ folder. AreKept format waits spans folder → IsStoppedBy kind asked u (past_behind format waits folder nothing spans) (fault_in last.taker.phase fault) now)
stopped_reading kind asked format waits None spans first last u now fault begins halted = tt
stopped_reading kind asked format waits (Some folder) spans first last u now fault begins halted = λ kept.
    let past = past_behind format waits folder nothing spans in
    let By : Rules → Type 0 = λ rules. IsStoppedBy kind rules u past (fault_in last.taker.phase fault) now in
    subst By begins.same (phase_stopped kind begins.rules u past last.taker.phase fault now begins.fits ((halted kept).within begins.rules u nothing begins.holds past (later_same past)))

pub stopped_ending : {S : Type 0} (kind : StageKind S) (asked : Rules) (format : Format) (waits : Bool) (told : Option Folder) (spans : List Span) (first last : Page (SampledWriter S)) (u mid after : S) (fault : SampleFault)
    → Begins kind asked first.taker u
    → Told told (λ folder. AreKept format waits spans folder → SamplesSpans (writer_kind kind) format waits folder spans first last u mid)
    → ((rules : SampleRules (RowMaker S)) (begin : S) (past : Past) → Fits rules → Holds (writer_kind kind) rules begin past last.taker mid → IsStoppedBy kind (run_rules rules) begin past fault after)
    → Told told (λ folder. AreKept format waits spans folder → IsStoppedBy kind asked u (past_behind format waits folder nothing spans) fault after)
stopped_ending kind asked format waits None spans first last u mid after fault begins taken ends = tt
stopped_ending kind asked format waits (Some folder) spans first last u mid after fault begins taken ends = λ kept.
    let past = past_behind format waits folder nothing spans in
    let By : Rules → Type 0 = λ rules. IsStoppedBy kind rules u past fault after in
    subst By begins.same (ends begins.rules u past begins.fits ((taken kept).along begins.rules u nothing begins.holds))

-- ---- a fault in its turn

module _ {S : Type 0} (kind : StageKind S) (rules : SampleRules (RowMaker S)) (begin now : S) (most_bad : Option ℕ) (format : Format) (waits : Bool) (folder : Folder) (spans : List Span) (fits : Fits rules) where
  -- the writer stopped: for what it refused, or for want of memory
  turn_refused : (writer : Writer SampledPicker) (refused : Option Refused) → writer.refused ≡ refused → StopsBehind (writer_kind kind) rules begin most_bad format waits folder spans (P.Taking writer) now
      → ComesInTurn (run_rules rules) begin (past_behind format waits folder nothing spans) most_bad format waits folder spans (refused_in refused) now
  turn_refused writer None is stops = tt
  turn_refused writer (Some why) is stops =
      let all = past_behind format waits folder nothing spans in
      behind_sample (writer_kind kind) rules begin now most_bad format waits folder spans (P.Taking writer) (λ up. IsUnplacedAt (run_rules rules) all (found_up_to format waits folder spans up) up.rest why) stops stops.judged
      (unplaced_at kind rules begin (past_up_to format waits folder spans nothing stops.up) all (found_up_to format waits folder spans stops.up) stops.up.rest writer why now fits
      (up_stays format waits folder rules spans nothing stops.up stops.judged) (up_founds format waits folder spans nothing stops.up) is stops.stopped)

  turn_bad : (phase : Phase (RowMaker S) (Writer SampledPicker)) (log : List ℕ) (row : ℕ) → TakesBefore (writer_kind kind) rules begin most_bad format waits folder spans (bad_line log row) phase now
      → ComesInTurn (run_rules rules) begin (past_behind format waits folder nothing spans) most_bad format waits folder spans (F.Bad log row) now
  turn_bad phase log row takes =
      let all = past_behind format waits folder nothing spans in
      bad_in_turn (writer_kind kind) rules begin now most_bad format waits folder spans (bad_line log row) phase (ArePlaced (run_rules rules) all) takes
      (λ writer on. placed_is kind rules begin (past_up_to format waits folder spans nothing takes.up) all (found_up_to format waits folder spans takes.up) writer now fits
      (up_stays format waits folder rules spans nothing takes.up on.told) (up_founds format waits folder spans nothing takes.up) on)

  turn_none : (phase : Phase (RowMaker S) (Writer SampledPicker)) (fault : RunFault) → OnBadLine fault (λ line. TakesBefore (writer_kind kind) rules begin most_bad format waits folder spans line phase now)
      → ComesInTurn (run_rules rules) begin (past_behind format waits folder nothing spans) most_bad format waits folder spans (read_fault fault None) now
  turn_none phase R.Memory bad = tt
  turn_none phase R.Logs bad = tt
  turn_none phase R.Output bad = tt
  turn_none phase R.Stopped bad = tt
  turn_none phase (R.Bad log row) bad = turn_bad phase log row bad

  turn_taking : (writer : Writer SampledPicker) (fault : RunFault) → StopsBehind (writer_kind kind) rules begin most_bad format waits folder spans (P.Taking writer) now
      → OnBadLine fault (λ line. TakesBefore (writer_kind kind) rules begin most_bad format waits folder spans line (P.Taking writer) now)
      → ComesInTurn (run_rules rules) begin (past_behind format waits folder nothing spans) most_bad format waits folder spans (read_fault fault writer.refused) now
  turn_taking writer R.Memory stops bad = tt
  turn_taking writer R.Logs stops bad = tt
  turn_taking writer R.Output stops bad = tt
  turn_taking writer R.Stopped stops bad = turn_refused writer writer.refused refl stops
  turn_taking writer (R.Bad log row) stops bad = turn_bad (P.Taking writer) log row bad

  turn_phase : (phase : Phase (RowMaker S) (Writer SampledPicker)) (fault : RunFault) → StopsBehind (writer_kind kind) rules begin most_bad format waits folder spans phase now
      → OnBadLine fault (λ line. TakesBefore (writer_kind kind) rules begin most_bad format waits folder spans line phase now)
      → ComesInTurn (run_rules rules) begin (past_behind format waits folder nothing spans) most_bad format waits folder spans (fault_in phase fault) now
  turn_phase (P.Gathering gathering) fault stops bad = turn_none (P.Gathering gathering) fault bad
  turn_phase (P.Taking writer) fault stops bad = turn_taking writer fault stops bad
  turn_phase (P.Refused plan) fault stops bad = behind_sample (writer_kind kind) rules begin now most_bad format waits folder spans (P.Refused plan) (λ up. ⊤) stops stops.judged tt
  turn_phase P.Lost fault stops bad = turn_none P.Lost fault bad

turn_told : {S : Type 0} (kind : StageKind S) (asked : Rules) (format : Format) (waits : Bool) (told : Option Folder) (spans : List Span) (first : SampledWriter S) (phase : Phase (RowMaker S) (Writer SampledPicker)) (u now : S) (fault : RunFault) (most_bad : Option ℕ)
    → (begins : Begins kind asked first u)
    → Told told (λ folder. AreKept format waits spans folder → StopsBehind (writer_kind kind) begins.rules u most_bad format waits folder spans phase now)
    → Told told (λ folder. AreKept format waits spans folder → OnBadLine fault (λ line. TakesBefore (writer_kind kind) begins.rules u most_bad format waits folder spans line phase now))
    → Told told (λ folder. AreKept format waits spans folder → ComesInTurn asked u (past_behind format waits folder nothing spans) most_bad format waits folder spans (fault_in phase fault) now)
turn_told kind asked format waits None spans first phase u now fault most_bad begins stops bad = tt
turn_told kind asked format waits (Some folder) spans first phase u now fault most_bad begins stops bad = λ kept.
    let By : Rules → Type 0 = λ rules. ComesInTurn rules u (past_behind format waits folder nothing spans) most_bad format waits folder spans (fault_in phase fault) now in
    subst By begins.same (turn_phase kind begins.rules u now most_bad format waits folder spans begins.fits phase fault (stops kept) (bad kept))

-- while records were taken
pub turn_reading : {S : Type 0} (kind : StageKind S) (asked : Rules) (format : Format) (waits : Bool) (told : Option Folder) (spans : List Span) (first last : Page (SampledWriter S)) (u now : S) (fault : RunFault) (most_bad : Option ℕ)
    → Begins kind asked first.taker u → first.most_bad ≡ most_bad → first.bad ≡ 0
    → Told told (λ folder. AreKept format waits spans folder → StopsUpTo (λ (old : SampledWriter S) (before : S) mets new after. SampleHalts (writer_kind kind) old before mets new after) format waits folder spans first last u now)
    → OnBadLine fault (λ line. Told told (λ folder. AreKept format waits spans folder → TakesUpTo (λ (old : SampledWriter S) (before : S) mets new after. Samples (writer_kind kind) old before mets new after) format waits folder spans line first last u now))
    → Told told (λ folder. AreKept format waits spans folder → ComesInTurn asked u (past_behind format waits folder nothing spans) most_bad format waits folder spans (fault_in last.taker.phase fault) now)
turn_reading kind asked format waits told spans first last u now fault most_bad begins most bad stops takes =
    turn_told kind asked format waits told spans first.taker last.taker.phase u now fault most_bad begins
    (stops_behind (writer_kind kind) begins.rules u now most_bad format waits told spans first last most bad begins.holds stops)
    (takes_before (writer_kind kind) begins.rules u now most_bad format waits told spans fault first last most bad begins.holds takes)

-- once all were taken
turn_all : {S : Type 0} (kind : StageKind S) (rules : Rules) (start now : S) (most_bad : Option ℕ) (format : Format) (waits : Bool) (folder : Folder) (spans : List Span) (fault : SampleFault)
    → IsOfEnd fault → IsWithin most_bad (length (spans_bad format waits folder spans)) → IsStoppedBy kind rules start (past_behind format waits folder nothing spans) fault now
    → ComesInTurn rules start (past_behind format waits folder nothing spans) most_bad format waits folder spans fault now
turn_all kind rules start now most_bad format waits folder spans (F.Plan plan) end within stopped = behind_lines rules.limit most_bad format waits folder spans (λ up. ⊤) within tt
turn_all kind rules start now most_bad format waits folder spans (F.Refused why) end within stopped =
    let all = past_behind format waits folder nothing spans in
    let same : all.founds ≡ found_up_to format waits folder spans (up_all waits folder spans) = behind_founds format waits folder nothing spans ∙ sym (found_up_all format waits folder spans) in
    let Of : List Found → Type 0 = λ founds. IsRefusedOutput (rules.asked stopped.plan) (rows_with rules.pattern (told_at rules all) stopped.plan founds) why in
    behind_lines rules.limit most_bad format waits folder spans (λ up. IsUnplacedAt rules all (found_up_to format waits folder spans up) up.rest why) within
    (record { plan = stopped.plan; planned = stopped.planned; refused = subst Of same stopped.refused; early = inr refl })
turn_all kind rules start now most_bad format waits folder spans (F.Bad log row) end within stopped = absurd end
turn_all kind rules start now most_bad format waits folder spans F.Logs end within stopped = tt
turn_all kind rules start now most_bad format waits folder spans F.Output end within stopped = tt
turn_all kind rules start now most_bad format waits folder spans F.Memory end within stopped = tt

turn_end : {S : Type 0} (kind : StageKind S) (asked : Rules) (format : Format) (waits : Bool) (told : Option Folder) (spans : List Span) (u after : S) (most_bad : Option ℕ) (fault : SampleFault) → IsOfEnd fault
    → Told told (λ folder. AreKept format waits spans folder → IsWithin most_bad (length (spans_bad format waits folder spans)))
    → Told told (λ folder. AreKept format waits spans folder → IsStoppedBy kind asked u (past_behind format waits folder nothing spans) fault after)
    → Told told (λ folder. AreKept format waits spans folder → ComesInTurn asked u (past_behind format waits folder nothing spans) most_bad format waits folder spans fault after)
turn_end kind asked format waits None spans u after most_bad fault end within stopped = tt
turn_end kind asked format waits (Some folder) spans u after most_bad fault end within stopped = λ kept. turn_all kind asked u after most_bad format waits folder spans fault end (within kept) (stopped kept)

pub turn_ending : {S : Type 0} (kind : StageKind S) (asked : Rules) (format : Format) (waits : Bool) (told : Option Folder) (spans : List Span) (first last : Page (SampledWriter S)) (u mid after : S) (most_bad : Option ℕ) (fault : SampleFault)
    → first.bad ≡ 0 → IsWithin most_bad last.bad → IsOfEnd fault
    → Told told (λ folder. AreKept format waits spans folder → SamplesSpans (writer_kind kind) format waits folder spans first last u mid)
    → Told told (λ folder. AreKept format waits spans folder → IsStoppedBy kind asked u (past_behind format waits folder nothing spans) fault after)
    → Told told (λ folder. AreKept format waits spans folder → ComesInTurn asked u (past_behind format waits folder nothing spans) most_bad format waits folder spans fault after)
turn_ending kind asked format waits told spans first last u mid after most_bad fault none within end taken stopped =
    turn_end kind asked format waits told spans u after most_bad fault end (bad_within (writer_kind kind) format waits told spans first last u mid most_bad none within taken) stopped

-- nothing was read
pub turn_at_once : {S : Type 0} (rules : Rules) (format : Format) (waits : Bool) (told : Option Folder) (spans : List Span) (start : S) (most_bad : Option ℕ)
    → Told told (λ folder. AreKept format waits spans folder → ComesInTurn rules start (past_behind format waits folder nothing spans) most_bad format waits folder spans F.Memory start)
turn_at_once rules format waits None spans start most_bad = tt
turn_at_once rules format waits (Some folder) spans start most_bad = λ kept. tt

-- the fault at the phase that a page has
pub fault_from : {M P : Type 0} (a b : Phase M (Writer P)) (fault : RunFault) (result : SampleFault) → result ≡ fault_in a fault → a ≡ b → result ≡ fault_in b fault
fault_from {M = M} {P = P} a b fault result is same = is ∙ ap (λ (phase : Phase M (Writer P)). fault_in phase fault) same

-- nothing was read
pub stopped_at_once : {S : Type 0} (kind : StageKind S) (rules : Rules) (format : Format) (waits : Bool) (told : Option Folder) (spans : List Span) (start : S)
    → Told told (λ folder. AreKept format waits spans folder → IsStoppedBy kind rules start (past_behind format waits folder nothing spans) F.Memory start)
stopped_at_once kind rules format waits None spans start = tt
stopped_at_once kind rules format waits (Some folder) spans start = λ kept. inl refl

-- ---- faults

pub bad_in : {M P : Type 0} (phase : Phase M (Writer P)) (fault : RunFault) (Q : BadLine → Type 0) → OnBadLine fault Q → OnBadOne (fault_in phase fault) Q
bad_in (P.Gathering gathering) fault Q q = bad_read fault None Q q
bad_in (P.Taking writer) fault Q q = bad_read fault writer.refused Q q
bad_in (P.Refused plan) fault Q q = tt
bad_in P.Lost fault Q q = bad_read fault None Q q

pub logs_in : {M P : Type 0} (phase : Phase M (Writer P)) (fault : RunFault) → fault_in phase fault ≡ F.Logs → fault ≡ R.Logs
logs_in (P.Gathering gathering) fault e = read_logs fault None e
logs_in (P.Taking writer) fault e = read_logs fault writer.refused e
logs_in (P.Refused plan) fault e = absurd cc
logs_in P.Lost fault e = read_logs fault None e

pub output_in : {M P : Type 0} (phase : Phase M (Writer P)) (fault : RunFault) → fault_in phase fault ≡ F.Output → fault ≡ R.Output
output_in (P.Gathering gathering) fault e = read_output fault None e
output_in (P.Taking writer) fault e = read_output fault writer.refused e
output_in (P.Refused plan) fault e = absurd cc
output_in P.Lost fault e = read_output fault None e

-- ---- a fault at the end

pub stop_end : {P : Type 0} (stop : Stop (Writer P)) → IsOfEnd (fault_of stop)
stop_end (Why.Refused fault) = tt
stop_end (Why.Stopped writer) = refused_end writer.refused
stop_end Why.Failed = tt
stop_end Why.Memory = tt

-- ---- CSV and TSV

pub ran_told : {S : Type 0} (kind : StageKind S) (rules : Rules) (format : Format) (waits : Bool) → SetsOnce format → (told : Option Folder) (spans : List Span) (before : S) (after : S) (run : Written)
    → Told told (λ folder. AreKept format waits spans folder → IsSampled kind rules before (past_behind format waits folder nothing spans) format waits folder spans run after)
    → Told told (λ folder. AreKept format waits spans folder → IsSampled kind rules before (past_of format waits folder spans) format waits folder spans run after)
ran_told kind rules format waits sets None spans before after run ran = tt
ran_told kind rules format waits sets (Some folder) spans before after run ran = λ kept.
    let Of : Past → Type 0 = λ past. IsSampled kind rules before past format waits folder spans run after in
    subst Of (behind_all format sets waits folder spans kept) (ran kept)

pub stopped_told : {S : Type 0} (kind : StageKind S) (rules : Rules) (format : Format) (waits : Bool) → SetsOnce format → (told : Option Folder) (spans : List Span) (before : S) (after : S) (fault : SampleFault)
    → Told told (λ folder. AreKept format waits spans folder → IsStoppedBy kind rules before (past_behind format waits folder nothing spans) fault after)
    → Told told (λ folder. AreKept format waits spans folder → IsStoppedBy kind rules before (past_of format waits folder spans) fault after)
stopped_told kind rules format waits sets None spans before after fault stopped = tt
stopped_told kind rules format waits sets (Some folder) spans before after fault stopped = λ kept.
    let Of : Past → Type 0 = λ past. IsStoppedBy kind rules before past fault after in
    subst Of (behind_all format sets waits folder spans kept) (stopped kept)

pub turn_by_spans : {S : Type 0} (rules : Rules) (format : Format) (waits : Bool) → SetsOnce format → (told : Option Folder) (spans : List Span) (before after : S) (most_bad : Option ℕ) (fault : SampleFault)
    → Told told (λ folder. AreKept format waits spans folder → ComesInTurn rules before (past_behind format waits folder nothing spans) most_bad format waits folder spans fault after)
    → Told told (λ folder. AreKept format waits spans folder → ComesInTurn rules before (past_of format waits folder spans) most_bad format waits folder spans fault after)
turn_by_spans rules format waits sets None spans before after most_bad fault turn = tt
turn_by_spans rules format waits sets (Some folder) spans before after most_bad fault turn = λ kept.
    let Of : Past → Type 0 = λ past. ComesInTurn rules before past most_bad format waits folder spans fault after in
    subst Of (behind_all format sets waits folder spans kept) (turn kept)
