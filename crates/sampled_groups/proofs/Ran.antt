-- A whole run, from the first log to the end of the outputs.
use Rattle.std.specs.Prelude.{⊤}
use Rattle.std.proofs.Common.{◌≡◌, ◌⊎◌, ℕ, Bool, List, [], length, Option, Some, None, ap, ◌∙◌, refl, subst, arith, inl, inr}
use Rattle.lp_model.specs.Outside.{Folder, Told}
use Rattle.lp_model.specs.Reading.{Format}
use Rattle.log_reading.specs.declared.page.Page.{Page}
use Rattle.log_reading.specs.declared.span.RunFault.{RunFault}
use Rattle.log_reading.specs.declared.span.RunFault.TheVariants as R
use Rattle.log_reading.specs.declared.span.Span.{Span}
use Rattle.log_reading.specs.Page.{IsWithin}
use Rattle.log_reading.specs.Spans.{AreKept, BadLine, OnBadLine, bad_line, spans_bad}
use Rattle.log_reading.specs.UpTo.{StopsUpTo, TakesUpTo}
use Rattle.text_output.specs.Output.{StageKind}
use Rattle.row_output.specs.declared.fault.Refused.{Refused}
use Rattle.query_run.specs.declared.executing.Written.{Written}
use Rattle.column_kinds.proofs.SetsOnce.{SetsOnce}
use Rattle.column_kinds.proofs.Behind.{behind_all, behind_founds}
use Rattle.column_kinds.proofs.InTurn.{StopsBehind, TakesBefore, bad_in_turn, bad_within, behind_lines, behind_sample, stops_behind, takes_before}
use Rattle.column_kinds.proofs.UpTo.{past_up_to, up_stays}
use Rattle.column_kinds.specs.Laws.{Samples, later_same}
use Rattle.column_kinds.specs.Laws.{Halts as SampleHalts}
use Rattle.column_kinds.specs.declared.maker.Stop.{Stop}
use Rattle.column_kinds.specs.declared.maker.Stop.TheVariants as Why
use Rattle.column_kinds.specs.Past.{Past}
use Rattle.column_kinds.specs.Sampling.{Holds, StopsAs}
use Rattle.column_kinds.specs.Sampling.{Rules as SampleRules, PhaseStopped as SamplePhase}
use Rattle.column_kinds.specs.Spans.{past_behind, past_of}
use Rattle.column_kinds.specs.SpansTold.{SamplesSpans, HaltsIn, spans_told}
use Rattle.column_kinds.specs.declared.phase.Phase.{Phase}
use Rattle.column_kinds.specs.declared.phase.Phase.TheVariants as P
use Rattle.column_kinds.specs.declared.phase.Sampled.{Sampled}
use Rattle.sampled_run.specs.declared.fault.SampleFault.{SampleFault}
use Rattle.sampled_run.specs.declared.fault.SampleFault.TheVariants as F
use Rattle.sampled_run.specs.Ran.{IsOfEnd, OnBadOne, read_fault, refused_in}
use Rattle.sampled_run.proofs.Faults.{bad_read, read_logs, read_output, refused_end}
use Rattle.sampled_groups.specs.declared.group_maker.GroupMaker.{GroupMaker}
use Rattle.sampled_groups.specs.declared.group_taker.GroupTaker.{GroupTaker}
use Rattle.sampled_groups.specs.Kinds.{Fits, group_kind, run_rules}
use Rattle.sampled_groups.specs.InTurn.{ArePlaced, ComesInTurn}
use Rattle.sampled_groups.specs.Ran.{IsFront, IsSampled, IsStoppedBy, IsUnplacedFirst, IsWritten, fault_in, fault_of}
use Rattle.sampled_groups.specs.Rules.{GroupRules}
use Rattle.sampled_groups.proofs.Fresh.{Begins, nothing}
use Rattle.sampled_groups.proofs.Puts.{front_is, placed_is, refused_is, taker_stopped, taking_within, unplaced_first}

abbrev pub SampledTaker : Type 0 → Type 0
SampledTaker S = Sampled (GroupMaker S) GroupTaker

-- ---- all rows

pub ran : {S : Type 0} (kind : StageKind S) (asked : GroupRules) (format : Format) (waits : Bool) (told : Option Folder) (spans : List Span) (first last : Page (SampledTaker S)) (u mid after : S) (run : Written)
    → Begins kind asked first.taker u → first.rows ≡ 0 → first.bad ≡ 0 → run.counts.processed ≡ last.rows → run.counts.bad ≡ last.bad
    → Told told (λ folder. AreKept format waits spans folder → SamplesSpans (group_kind kind) format waits folder spans first last u mid)
    → ((rules : SampleRules (GroupMaker S)) (begin : S) (past : Past) → Fits rules → Holds (group_kind kind) rules begin past last.taker mid → IsWritten kind (run_rules rules) begin past run.counts.output run.outputs after)
    → Told told (λ folder. AreKept format waits spans folder → IsSampled kind asked u (past_behind format waits folder nothing spans) format waits folder spans run after)
ran kind asked format waits None spans first last u mid after run begins rows bad processed bads taken ends = tt
ran kind asked format waits (Some folder) spans first last u mid after run begins rows bad processed bads taken ends = λ kept.
    let all = taken kept in
    let past = past_behind format waits folder nothing spans in
    let rows_now = all.rows in
    let bad_now = all.bad in
    let founds = ap length (behind_founds format waits folder nothing spans) in
    let By : GroupRules → Type 0 = λ rules. IsWritten kind rules u past run.counts.output run.outputs after in
    record {
      written = subst By begins.same (ends begins.rules u past begins.fits (all.along begins.rules u nothing begins.holds));
      processed = omega arith;
      bad = omega arith;
    }

-- ---- a run that stopped

read_front : {S : Type 0} (kind : StageKind S) (rules : GroupRules) (start : S) (past : Past) (fault : RunFault) (now : S) → IsFront kind rules start past now → IsStoppedBy kind rules start past (read_fault fault None) now
read_front kind rules start past R.Memory now front = front
read_front kind rules start past R.Logs now front = front
read_front kind rules start past R.Output now front = front
read_front kind rules start past R.Stopped now front = front
read_front kind rules start past (R.Bad log row) now front = front

read_taking : {S : Type 0} (kind : StageKind S) (rules : SampleRules (GroupMaker S)) (begin : S) (past : Past) (taker : GroupTaker) (fault : RunFault) (now : S) → StopsAs (group_kind kind) rules begin past taker now
    → IsStoppedBy kind (run_rules rules) begin past (read_fault fault taker.refused) now
read_taking kind rules begin past taker R.Memory now stops = taking_within kind rules begin past taker now stops
read_taking kind rules begin past taker R.Logs now stops = taking_within kind rules begin past taker now stops
read_taking kind rules begin past taker R.Output now stops = taking_within kind rules begin past taker now stops
read_taking kind rules begin past taker R.Stopped now stops = taker_stopped kind rules begin past taker taker.refused now refl stops
read_taking kind rules begin past taker (R.Bad log row) now stops = taking_within kind rules begin past taker now stops

phase_stopped : {S : Type 0} (kind : StageKind S) (rules : SampleRules (GroupMaker S)) (begin : S) (past : Past) (phase : Phase (GroupMaker S) GroupTaker) (fault : RunFault) (now : S)
    → SamplePhase (group_kind kind) rules begin past phase now → IsStoppedBy kind (run_rules rules) begin past (fault_in phase fault) now
phase_stopped kind rules begin past (P.Gathering gathering) fault now stopped = read_front kind (run_rules rules) begin past fault now (front_is kind rules begin past now stopped)
phase_stopped kind rules begin past (P.Taking taker) fault now stopped = read_taking kind rules begin past taker fault now stopped
phase_stopped kind rules begin past (P.Refused plan) fault now stopped = refused_is kind rules begin past plan now stopped
phase_stopped kind rules begin past P.Lost fault now stopped = read_front kind (run_rules rules) begin past fault now (front_is kind rules begin past now stopped)

pub stopped_reading : {S : Type 0} (kind : StageKind S) (asked : GroupRules) (format : Format) (waits : Bool) (told : Option Folder) (spans : List Span) (first last : Page (SampledTaker S)) (u now : S) (fault : RunFault)
    → Begins kind asked first.taker u
    → Told told (λ folder. AreKept format waits spans folder → HaltsIn (group_kind kind) (spans_told format waits folder spans) first.taker last.taker u now)
    → Told told (λ folder. AreKept format waits spans folder → IsStoppedBy kind asked u (past_behind format waits folder nothing spans) (fault_in last.taker.phase fault) now)
stopped_reading kind asked format waits None spans first last u now fault begins halted = tt
stopped_reading kind asked format waits (Some folder) spans first last u now fault begins halted = λ kept.
    let past = past_behind format waits folder nothing spans in
    let By : GroupRules → Type 0 = λ rules. IsStoppedBy kind rules u past (fault_in last.taker.phase fault) now in
    subst By begins.same (phase_stopped kind begins.rules u past last.taker.phase fault now ((halted kept).within begins.rules u nothing begins.holds past (later_same past)))

pub stopped_ending : {S : Type 0} (kind : StageKind S) (asked : GroupRules) (format : Format) (waits : Bool) (told : Option Folder) (spans : List Span) (first last : Page (SampledTaker S)) (u mid after : S) (fault : SampleFault)
    → Begins kind asked first.taker u
    → Told told (λ folder. AreKept format waits spans folder → SamplesSpans (group_kind kind) format waits folder spans first last u mid)
    → ((rules : SampleRules (GroupMaker S)) (begin : S) (past : Past) → Fits rules → Holds (group_kind kind) rules begin past last.taker mid → IsStoppedBy kind (run_rules rules) begin past fault after)
    → Told told (λ folder. AreKept format waits spans folder → IsStoppedBy kind asked u (past_behind format waits folder nothing spans) fault after)
stopped_ending kind asked format waits None spans first last u mid after fault begins taken ends = tt
stopped_ending kind asked format waits (Some folder) spans first last u mid after fault begins taken ends = λ kept.
    let past = past_behind format waits folder nothing spans in
    let By : GroupRules → Type 0 = λ rules. IsStoppedBy kind rules u past fault after in
    subst By begins.same (ends begins.rules u past begins.fits ((taken kept).along begins.rules u nothing begins.holds))

-- ---- a fault in its turn

module _ {S : Type 0} (kind : StageKind S) (rules : SampleRules (GroupMaker S)) (begin now : S) (most_bad : Option ℕ) (format : Format) (waits : Bool) (folder : Folder) (spans : List Span) where
  -- the taker stopped: for the name without stars, or for want of memory
  turn_refused : (taker : GroupTaker) (refused : Option Refused) → taker.refused ≡ refused → StopsBehind (group_kind kind) rules begin most_bad format waits folder spans (P.Taking taker) now
      → ComesInTurn (run_rules rules) begin (past_behind format waits folder nothing spans) most_bad format waits folder spans (refused_in refused) now
  turn_refused taker None is stops = tt
  turn_refused taker (Some why) is stops =
      let all = past_behind format waits folder nothing spans in
      behind_sample (group_kind kind) rules begin now most_bad format waits folder spans (P.Taking taker) (λ up. IsUnplacedFirst (run_rules rules) all why ⊎ (up.rest ≡ [])) stops stops.judged
      (inl (unplaced_first kind rules begin (past_up_to format waits folder spans nothing stops.up) all taker why now (up_stays format waits folder rules spans nothing stops.up stops.judged) is stops.stopped))

  turn_bad : (phase : Phase (GroupMaker S) GroupTaker) (log : List ℕ) (row : ℕ) → TakesBefore (group_kind kind) rules begin most_bad format waits folder spans (bad_line log row) phase now
      → ComesInTurn (run_rules rules) begin (past_behind format waits folder nothing spans) most_bad format waits folder spans (F.Bad log row) now
  turn_bad phase log row takes =
      let all = past_behind format waits folder nothing spans in
      bad_in_turn (group_kind kind) rules begin now most_bad format waits folder spans (bad_line log row) phase (λ founds. ArePlaced (run_rules rules) all) takes
      (λ taker on. placed_is kind rules begin (past_up_to format waits folder spans nothing takes.up) all taker now (up_stays format waits folder rules spans nothing takes.up on.told) on)

  turn_none : (phase : Phase (GroupMaker S) GroupTaker) (fault : RunFault) → OnBadLine fault (λ line. TakesBefore (group_kind kind) rules begin most_bad format waits folder spans line phase now)
      → ComesInTurn (run_rules rules) begin (past_behind format waits folder nothing spans) most_bad format waits folder spans (read_fault fault None) now
  turn_none phase R.Memory bad = tt
  turn_none phase R.Logs bad = tt
  turn_none phase R.Output bad = tt
  turn_none phase R.Stopped bad = tt
  turn_none phase (R.Bad log row) bad = turn_bad phase log row bad

  turn_taking : (taker : GroupTaker) (fault : RunFault) → StopsBehind (group_kind kind) rules begin most_bad format waits folder spans (P.Taking taker) now
      → OnBadLine fault (λ line. TakesBefore (group_kind kind) rules begin most_bad format waits folder spans line (P.Taking taker) now)
      → ComesInTurn (run_rules rules) begin (past_behind format waits folder nothing spans) most_bad format waits folder spans (read_fault fault taker.refused) now
  turn_taking taker R.Memory stops bad = tt
  turn_taking taker R.Logs stops bad = tt
  turn_taking taker R.Output stops bad = tt
  turn_taking taker R.Stopped stops bad = turn_refused taker taker.refused refl stops
  turn_taking taker (R.Bad log row) stops bad = turn_bad (P.Taking taker) log row bad

  turn_phase : (phase : Phase (GroupMaker S) GroupTaker) (fault : RunFault) → StopsBehind (group_kind kind) rules begin most_bad format waits folder spans phase now
      → OnBadLine fault (λ line. TakesBefore (group_kind kind) rules begin most_bad format waits folder spans line phase now)
      → ComesInTurn (run_rules rules) begin (past_behind format waits folder nothing spans) most_bad format waits folder spans (fault_in phase fault) now
  turn_phase (P.Gathering gathering) fault stops bad = turn_none (P.Gathering gathering) fault bad
  turn_phase (P.Taking taker) fault stops bad = turn_taking taker fault stops bad
  turn_phase (P.Refused plan) fault stops bad = behind_sample (group_kind kind) rules begin now most_bad format waits folder spans (P.Refused plan) (λ up. ⊤) stops stops.judged tt
  turn_phase P.Lost fault stops bad = turn_none P.Lost fault bad

turn_told : {S : Type 0} (kind : StageKind S) (asked : GroupRules) (format : Format) (waits : Bool) (told : Option Folder) (spans : List Span) (first : SampledTaker S) (phase : Phase (GroupMaker S) GroupTaker) (u now : S) (fault : RunFault) (most_bad : Option ℕ)
    → (begins : Begins kind asked first u)
    → Told told (λ folder. AreKept format waits spans folder → StopsBehind (group_kind kind) begins.rules u most_bad format waits folder spans phase now)
    → Told told (λ folder. AreKept format waits spans folder → OnBadLine fault (λ line. TakesBefore (group_kind kind) begins.rules u most_bad format waits folder spans line phase now))
    → Told told (λ folder. AreKept format waits spans folder → ComesInTurn asked u (past_behind format waits folder nothing spans) most_bad format waits folder spans (fault_in phase fault) now)
turn_told kind asked format waits None spans first phase u now fault most_bad begins stops bad = tt
turn_told kind asked format waits (Some folder) spans first phase u now fault most_bad begins stops bad = λ kept.
    let By : GroupRules → Type 0 = λ rules. ComesInTurn rules u (past_behind format waits folder nothing spans) most_bad format waits folder spans (fault_in phase fault) now in
    subst By begins.same (turn_phase kind begins.rules u now most_bad format waits folder spans phase fault (stops kept) (bad kept))

-- while records were taken
pub turn_reading : {S : Type 0} (kind : StageKind S) (asked : GroupRules) (format : Format) (waits : Bool) (told : Option Folder) (spans : List Span) (first last : Page (SampledTaker S)) (u now : S) (fault : RunFault) (most_bad : Option ℕ)
    → Begins kind asked first.taker u → first.most_bad ≡ most_bad → first.bad ≡ 0
    → Told told (λ folder. AreKept format waits spans folder → StopsUpTo (λ (old : SampledTaker S) (before : S) mets new after. SampleHalts (group_kind kind) old before mets new after) format waits folder spans first last u now)
    → OnBadLine fault (λ line. Told told (λ folder. AreKept format waits spans folder → TakesUpTo (λ (old : SampledTaker S) (before : S) mets new after. Samples (group_kind kind) old before mets new after) format waits folder spans line first last u now))
    → Told told (λ folder. AreKept format waits spans folder → ComesInTurn asked u (past_behind format waits folder nothing spans) most_bad format waits folder spans (fault_in last.taker.phase fault) now)
turn_reading kind asked format waits told spans first last u now fault most_bad begins most bad stops takes =
    turn_told kind asked format waits told spans first.taker last.taker.phase u now fault most_bad begins
    (stops_behind (group_kind kind) begins.rules u now most_bad format waits told spans first last most bad begins.holds stops)
    (takes_before (group_kind kind) begins.rules u now most_bad format waits told spans fault first last most bad begins.holds takes)

-- once all were taken
turn_all : {S : Type 0} (rules : GroupRules) (start now : S) (most_bad : Option ℕ) (format : Format) (waits : Bool) (folder : Folder) (spans : List Span) (fault : SampleFault)
    → IsOfEnd fault → IsWithin most_bad (length (spans_bad format waits folder spans))
    → ComesInTurn rules start (past_behind format waits folder nothing spans) most_bad format waits folder spans fault now
turn_all rules start now most_bad format waits folder spans (F.Plan plan) end within = behind_lines rules.limit most_bad format waits folder spans (λ up. ⊤) within tt
turn_all rules start now most_bad format waits folder spans (F.Refused why) end within =
    behind_lines rules.limit most_bad format waits folder spans (λ up. IsUnplacedFirst rules (past_behind format waits folder nothing spans) why ⊎ (up.rest ≡ [])) within (inr refl)
turn_all rules start now most_bad format waits folder spans (F.Bad log row) end within = absurd end
turn_all rules start now most_bad format waits folder spans F.Logs end within = tt
turn_all rules start now most_bad format waits folder spans F.Output end within = tt
turn_all rules start now most_bad format waits folder spans F.Memory end within = tt

turn_end : {S : Type 0} (asked : GroupRules) (format : Format) (waits : Bool) (told : Option Folder) (spans : List Span) (u after : S) (most_bad : Option ℕ) (fault : SampleFault) → IsOfEnd fault
    → Told told (λ folder. AreKept format waits spans folder → IsWithin most_bad (length (spans_bad format waits folder spans)))
    → Told told (λ folder. AreKept format waits spans folder → ComesInTurn asked u (past_behind format waits folder nothing spans) most_bad format waits folder spans fault after)
turn_end asked format waits None spans u after most_bad fault end within = tt
turn_end asked format waits (Some folder) spans u after most_bad fault end within = λ kept. turn_all asked u after most_bad format waits folder spans fault end (within kept)

pub turn_ending : {S : Type 0} (kind : StageKind S) (asked : GroupRules) (format : Format) (waits : Bool) (told : Option Folder) (spans : List Span) (first last : Page (SampledTaker S)) (u mid after : S) (most_bad : Option ℕ) (fault : SampleFault)
    → first.bad ≡ 0 → IsWithin most_bad last.bad → IsOfEnd fault
    → Told told (λ folder. AreKept format waits spans folder → SamplesSpans (group_kind kind) format waits folder spans first last u mid)
    → Told told (λ folder. AreKept format waits spans folder → ComesInTurn asked u (past_behind format waits folder nothing spans) most_bad format waits folder spans fault after)
turn_ending kind asked format waits told spans first last u mid after most_bad fault none within end taken =
    turn_end asked format waits told spans u after most_bad fault end (bad_within (group_kind kind) format waits told spans first last u mid most_bad none within taken)

-- nothing was read
pub turn_at_once : {S : Type 0} (rules : GroupRules) (format : Format) (waits : Bool) (told : Option Folder) (spans : List Span) (start : S) (most_bad : Option ℕ)
    → Told told (λ folder. AreKept format waits spans folder → ComesInTurn rules start (past_behind format waits folder nothing spans) most_bad format waits folder spans F.Memory start)
turn_at_once rules format waits None spans start most_bad = tt
turn_at_once rules format waits (Some folder) spans start most_bad = λ kept. tt

-- the fault at the phase that a page has
pub fault_from : {M : Type 0} (a b : Phase M GroupTaker) (fault : RunFault) (result : SampleFault) → result ≡ fault_in a fault → a ≡ b → result ≡ fault_in b fault
fault_from {M = M} a b fault result is same = is ∙ ap (λ (phase : Phase M GroupTaker). fault_in phase fault) same

-- nothing was read
pub stopped_at_once : {S : Type 0} (kind : StageKind S) (rules : GroupRules) (format : Format) (waits : Bool) (told : Option Folder) (spans : List Span) (start : S)
    → Told told (λ folder. AreKept format waits spans folder → IsStoppedBy kind rules start (past_behind format waits folder nothing spans) F.Memory start)
stopped_at_once kind rules format waits None spans start = tt
stopped_at_once kind rules format waits (Some folder) spans start = λ kept. inl refl

-- ---- faults

pub bad_in : {M : Type 0} (phase : Phase M GroupTaker) (fault : RunFault) (Q : BadLine → Type 0) → OnBadLine fault Q → OnBadOne (fault_in phase fault) Q
bad_in (P.Gathering gathering) fault Q q = bad_read fault None Q q
bad_in (P.Taking taker) fault Q q = bad_read fault taker.refused Q q
bad_in (P.Refused plan) fault Q q = tt
bad_in P.Lost fault Q q = bad_read fault None Q q

pub logs_in : {M : Type 0} (phase : Phase M GroupTaker) (fault : RunFault) → fault_in phase fault ≡ F.Logs → fault ≡ R.Logs
logs_in (P.Gathering gathering) fault e = read_logs fault None e
logs_in (P.Taking taker) fault e = read_logs fault taker.refused e
logs_in (P.Refused plan) fault e = absurd cc
logs_in P.Lost fault e = read_logs fault None e

pub output_in : {M : Type 0} (phase : Phase M GroupTaker) (fault : RunFault) → fault_in phase fault ≡ F.Output → fault ≡ R.Output
output_in (P.Gathering gathering) fault e = read_output fault None e
output_in (P.Taking taker) fault e = read_output fault taker.refused e
output_in (P.Refused plan) fault e = absurd cc
output_in P.Lost fault e = read_output fault None e

-- ---- faults at the end

pub stop_end : (stop : Stop GroupTaker) → IsOfEnd (fault_of stop)
stop_end (Why.Refused fault) = tt
stop_end (Why.Stopped taker) = refused_end taker.refused
stop_end Why.Failed = tt
stop_end Why.Memory = tt

-- ---- CSV and TSV

pub ran_told : {S : Type 0} (kind : StageKind S) (rules : GroupRules) (format : Format) (waits : Bool) → SetsOnce format → (told : Option Folder) (spans : List Span) (before : S) (after : S) (run : Written)
    → Told told (λ folder. AreKept format waits spans folder → IsSampled kind rules before (past_behind format waits folder nothing spans) format waits folder spans run after)
    → Told told (λ folder. AreKept format waits spans folder → IsSampled kind rules before (past_of format waits folder spans) format waits folder spans run after)
ran_told kind rules format waits sets None spans before after run ran = tt
ran_told kind rules format waits sets (Some folder) spans before after run ran = λ kept.
    let Of : Past → Type 0 = λ past. IsSampled kind rules before past format waits folder spans run after in
    subst Of (behind_all format sets waits folder spans kept) (ran kept)

pub stopped_told : {S : Type 0} (kind : StageKind S) (rules : GroupRules) (format : Format) (waits : Bool) → SetsOnce format → (told : Option Folder) (spans : List Span) (before : S) (after : S) (fault : SampleFault)
    → Told told (λ folder. AreKept format waits spans folder → IsStoppedBy kind rules before (past_behind format waits folder nothing spans) fault after)
    → Told told (λ folder. AreKept format waits spans folder → IsStoppedBy kind rules before (past_of format waits folder spans) fault after)
stopped_told kind rules format waits sets None spans before after fault stopped = tt
stopped_told kind rules format waits sets (Some folder) spans before after fault stopped = λ kept.
    let Of : Past → Type 0 = λ past. IsStoppedBy kind rules before past fault after in
    subst Of (behind_all format sets waits folder spans kept) (stopped kept)

pub turn_by_spans : {S : Type 0} (rules : GroupRules) (format : Format) (waits : Bool) → SetsOnce format → (told : Option Folder) (spans : List Span) (before after : S) (most_bad : Option ℕ) (fault : SampleFault)
    → Told told (λ folder. AreKept format waits spans folder → ComesInTurn rules before (past_behind format waits folder nothing spans) most_bad format waits folder spans fault after)
    → Told told (λ folder. AreKept format waits spans folder → ComesInTurn rules before (past_of format waits folder spans) most_bad format waits folder spans fault after)
turn_by_spans rules format waits sets None spans before after most_bad fault turn = tt
turn_by_spans rules format waits sets (Some folder) spans before after most_bad fault turn = λ kept.
    let Of : Past → Type 0 = λ past. ComesInTurn rules before past most_bad format waits folder spans fault after in
    subst Of (behind_all format sets waits folder spans kept) (turn kept)
