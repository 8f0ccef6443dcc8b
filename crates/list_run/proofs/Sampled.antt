-- A subquery over sampled columns, from the first log to the last.
use Rattle.std.proofs.Common.{◌≡◌, ℕ, ℤ, Bool, List, map, length, Option, Err, [], ap, ap₂, sym, ◌∙◌, refl, subst}
use Rattle.lp_model.specs.Outside.{Folder, Told}
use Rattle.lp_model.specs.Reading.{Format}
use Rattle.grammar.specs.Trees.{Query}
use Rattle.lp_time.specs.declared.piece.Piece.{Piece}
use Rattle.lp_values.specs.declared.value.Value.{Value}
use Rattle.log_reading.specs.declared.page.Page.{Page}
use Rattle.log_reading.specs.declared.span.RunFault.{RunFault}
use Rattle.log_reading.specs.declared.span.RunFault.TheVariants as R
use Rattle.log_reading.specs.declared.span.Span.{Span}
use Rattle.log_reading.specs.Spans.{AreKept, BadLine, OnBadLine}
use Rattle.query_types.specs.Planned.{planned_in}
use Rattle.query_types.specs.declared.fault.TypeFault.{TypeFault}
use Rattle.column_kinds.proofs.Behind.{behind_all}
use Rattle.column_kinds.proofs.SetsOnce.{SetsOnce}
use Rattle.column_kinds.proofs.UpTo.{none_enough}
use Rattle.column_kinds.specs.Kept.{found_in}
use Rattle.column_kinds.specs.Laws.{later_same}
use Rattle.column_kinds.specs.Past.{Past}
use Rattle.column_kinds.specs.Phases.{taken_in}
use Rattle.column_kinds.specs.Sampling.{Begun, Holds, IsStop, PhaseHolds, PhaseStopped, told_by}
use Rattle.column_kinds.specs.Sampling.{Rules as SampleRules}
use Rattle.column_kinds.specs.Spans.{past_behind, past_of}
use Rattle.column_kinds.specs.SpansTold.{SamplesSpans, HaltsIn, spans_told}
use Rattle.column_kinds.specs.declared.maker.Stop.{Stop}
use Rattle.column_kinds.specs.declared.maker.Stop.TheVariants as S
use Rattle.column_kinds.specs.declared.phase.Phase.{Phase}
use Rattle.column_kinds.specs.declared.phase.Phase.TheVariants as P
use Rattle.sampled_run.proofs.Fresh.{nothing}
use Rattle.sampled_run.proofs.Puts.{rows_same}
use Rattle.sampled_run.specs.Rules.{rows_with}
use Rattle.sampled_table.specs.declared.picking.SampledPicker.{SampledPicker}
use Rattle.query_run.proofs.WholeRun.{told_map}
use Rattle.list_run.specs.Faults.{IsOfEnd, OnBad, OnUnplanned, fault_in, fault_of}
use Rattle.list_run.specs.Gathering.{Remembered, remembered_of}
use Rattle.list_run.specs.Lists.{values_of}
use Rattle.list_run.specs.Made.{Fits, IsFresh, IsFreshIn, ListSample, list_kind, list_rules}
use Rattle.list_run.specs.Rules.{IsGiven, Rules, kind_first, plan_at, rules_of}
use Rattle.list_run.specs.declared.collector.Collector.{Collector}
use Rattle.list_run.specs.declared.fault.ListFault.{ListFault}
use Rattle.list_run.specs.declared.fault.ListFault.TheVariants as F
use Rattle.list_run.specs.declared.given.SampledValues.{SampledValues}
use Rattle.list_run.specs.declared.keep.Keep.{Keep}
use Rattle.list_run.specs.declared.list_maker.ListMaker.{ListMaker}
use Rattle.list_run.proofs.Alike.{remembers}
use Rattle.list_run.proofs.Spanning.{bad_read, logs_read, none_read}

-- ---- before the first record

pub taken_none : {T : Type 0} (count : T → ℕ) (pattern : List Piece) (moment : ℤ) (query : Query) (phase : Phase (ListMaker Remembered) T) → IsFreshIn pattern moment query phase → taken_in count phase ≡ 0
taken_none count pattern moment q (P.Gathering gathering) none = ap length none.rows
taken_none count pattern moment q (P.Taking taker) none = absurd none
taken_none count pattern moment q (P.Refused fault) none = absurd none
taken_none count pattern moment q P.Lost none = absurd none

-- a sample that goes by these rules, and has taken nothing
pub record Begins (keep : Keep) (asked : Rules) (sampled : ListSample) : Type 0 where
  pub rules : SampleRules (ListMaker Remembered)
  pub fits : Fits rules
  pub same : list_rules rules ≡ asked
  pub holds : Holds list_kind rules (remembered_of keep []) nothing sampled (remembered_of keep [])

fresh_in : (keep : Keep) (limit : ℕ) (pattern : List Piece) (moment : ℤ) (query : Query) (sampled : ListSample) (phase : Phase (ListMaker Remembered) (Collector SampledPicker))
    → sampled.limit ≡ limit → sampled.pattern.now ≡ pattern → sampled.phase ≡ phase → IsFreshIn pattern moment query phase → Begins keep (rules_of limit pattern moment query) sampled
fresh_in keep limit pattern moment q sampled (P.Gathering gathering) limit_is pattern_is phase_is none =
    let rules : SampleRules (ListMaker Remembered) = record { limit = limit; pattern = pattern; maker = gathering.maker } in
    let Of : Phase (ListMaker Remembered) (Collector SampledPicker) → Type 0 = λ p. PhaseHolds list_kind rules (remembered_of keep []) nothing p (remembered_of keep []) in
    record {
      rules = rules;
      fits = none.pattern_is;
      same = ap₂ (rules_of limit pattern) none.moment_is none.query_is;
      holds = record {
        asks = record { limit_is = limit_is; pattern_is = pattern_is };
        phase = subst Of (sym phase_is) (record { kept = record { maker = refl; first = none.first; rows = ap (map found_in) none.rows; nothing = refl }; waiting = none_enough limit });
      };
    }
fresh_in keep limit pattern moment q sampled (P.Taking taker) limit_is pattern_is phase_is none = absurd none
fresh_in keep limit pattern moment q sampled (P.Refused fault) limit_is pattern_is phase_is none = absurd none
fresh_in keep limit pattern moment q sampled P.Lost limit_is pattern_is phase_is none = absurd none

pub fresh_begins : (keep : Keep) (limit : ℕ) (pattern : List Piece) (moment : ℤ) (query : Query) (sampled : ListSample) → IsFresh limit pattern moment query sampled → Begins keep (rules_of limit pattern moment query) sampled
fresh_begins keep limit pattern moment q sampled is = fresh_in keep limit pattern moment q sampled sampled.phase is.limit_is is.pattern_is refl is.phase

-- ---- behind the last record

-- what the collector has gathered
pub given_is : (keep : Keep) (rules : SampleRules (ListMaker Remembered)) (past : Past) (collector : Collector SampledPicker) (now : Remembered) (list : SampledValues) → list.values ≡ now.facts → list.kept ≡ now.list → Fits rules → list.kind ≡ kind_first collector.picker.ready.plan.kinds
    → Begun list_kind rules (remembered_of keep []) past collector now → IsGiven keep (list_rules rules) past list
given_is keep rules past collector now list values kept fits kind begun =
    let made = begun.made in
    let is = begun.is_made in
    let all : now ≡ remembered_of keep (values_of (rows_with rules.pattern (told_by rules past) (planned_in made.picker.ready.plan) past.founds)) = begun.taken.values ∙ (remembers keep _ ∙ ap (λ (rows : List (List Value)). remembered_of keep (values_of rows)) (rows_same made.picker rules.pattern (told_by rules past) past.founds (is.pattern ∙ fits) is.told_is)) in
    record {
      plan = planned_in made.picker.ready.plan;
      planned = is.planned;
      values = values ∙ ap (λ (r : Remembered). r.facts) all;
      kept = kept ∙ ap (λ (r : Remembered). r.list) all;
      kind = kind ∙ ap (λ (picker : SampledPicker). kind_first picker.ready.plan.kinds) begun.taken.picker;
    }

pub unplanned_stop : (P : TypeFault → Type 0) (stop : Stop (Collector SampledPicker)) → ((why : TypeFault) → stop ≡ S.Refused why → P why) → OnUnplanned P (fault_of stop)
unplanned_stop P (S.Refused fault) so = so fault refl
unplanned_stop P (S.Stopped taker) so = tt
unplanned_stop P S.Failed so = tt
unplanned_stop P S.Memory so = tt

-- the subquery has no plan over the columns of these records
pub stop_is : (keep : Keep) (rules : SampleRules (ListMaker Remembered)) (past : Past) (stop : Stop (Collector SampledPicker)) (why : TypeFault) (now : Remembered) → IsStop list_kind rules (remembered_of keep []) past stop now → stop ≡ S.Refused why → plan_at (list_rules rules) past ≡ Err why
stop_is keep rules past stop why now stopped is = (subst (λ (stop : Stop (Collector SampledPicker)). IsStop list_kind rules (remembered_of keep []) past stop now) is stopped).refused

pub stop_end : {T : Type 0} (stop : Stop T) → IsOfEnd (fault_of stop)
stop_end (S.Refused fault) = tt
stop_end (S.Stopped taker) = tt
stop_end S.Failed = tt
stop_end S.Memory = tt

-- ---- over spans

module _ (keep : Keep) (asked : Rules) (format : Format) (waits : Bool) (told : Option Folder) (spans : List Span) where
  abbrev Kept : Folder → Type 0
  Kept folder = AreKept format waits spans folder

  abbrev behind : Folder → Past
  behind folder = past_behind format waits folder nothing spans

  held : (sampled : ListSample) (u : Remembered) → u ≡ remembered_of keep [] → (begins : Begins keep asked sampled) → Holds list_kind begins.rules (remembered_of keep []) nothing sampled u
  held sampled u none begins = subst (λ (w : Remembered). Holds list_kind begins.rules (remembered_of keep []) nothing sampled w) (sym none) begins.holds

  -- a fact of the rules and the records of a sample that has taken all
  pub at_end : (P : Rules → Past → Type 0) (first last : Page ListSample) (u now : Remembered) → u ≡ remembered_of keep [] → Begins keep asked first.taker
      → Told told (λ folder. AreKept format waits spans folder → SamplesSpans list_kind format waits folder spans first last u now)
      → ((rules : SampleRules (ListMaker Remembered)) (past : Past) → Fits rules → Holds list_kind rules (remembered_of keep []) past last.taker now → P (list_rules rules) past)
      → Told told (λ folder. AreKept format waits spans folder → P asked (past_behind format waits folder nothing spans))
  at_end P first last u now none begins taken so =
      told_map told (λ folder. Kept folder → SamplesSpans list_kind format waits folder spans first last u now) (λ folder. Kept folder → P asked (behind folder)) (λ folder took kept.
      let At : Rules → Type 0 = λ rules. P rules (behind folder) in
      subst At begins.same (so begins.rules (behind folder) begins.fits ((took kept).along begins.rules (remembered_of keep []) nothing (held first.taker u none begins)))) taken

  -- why it has no plan, where the reading stopped
  unplanned_in : (rules : SampleRules (ListMaker Remembered)) (phase : Phase (ListMaker Remembered) (Collector SampledPicker)) (fault : RunFault) (now : Remembered) → list_rules rules ≡ asked
      → Told told (λ folder. Kept folder → PhaseStopped list_kind rules (remembered_of keep []) (behind folder) phase now)
      → OnUnplanned (λ why. Told told (λ folder. Kept folder → plan_at asked (behind folder) ≡ Err why)) (fault_in phase fault)
  unplanned_in rules (P.Refused plan) fault now same stopped =
      told_map told (λ folder. Kept folder → PhaseStopped list_kind rules (remembered_of keep []) (behind folder) (P.Refused plan) now) (λ folder. Kept folder → plan_at asked (behind folder) ≡ Err plan) (λ folder stop kept.
      let At : Rules → Type 0 = λ rules. plan_at rules (behind folder) ≡ Err plan in
      subst At same (stop kept).refused) stopped
  unplanned_in rules (P.Gathering gathering) fault now same stopped = none_read (λ why. Told told (λ folder. Kept folder → plan_at asked (behind folder) ≡ Err why)) fault
  unplanned_in rules (P.Taking taker) fault now same stopped = none_read (λ why. Told told (λ folder. Kept folder → plan_at asked (behind folder) ≡ Err why)) fault
  unplanned_in rules P.Lost fault now same stopped = none_read (λ why. Told told (λ folder. Kept folder → plan_at asked (behind folder) ≡ Err why)) fault

  pub unplanned_reading : (first last : Page ListSample) (u now : Remembered) (fault : RunFault) → u ≡ remembered_of keep [] → Begins keep asked first.taker
      → Told told (λ folder. AreKept format waits spans folder → HaltsIn list_kind (spans_told format waits folder spans) first.taker last.taker u now)
      → OnUnplanned (λ why. Told told (λ folder. AreKept format waits spans folder → plan_at asked (past_behind format waits folder nothing spans) ≡ Err why)) (fault_in last.taker.phase fault)
  unplanned_reading first last u now fault none begins halted = unplanned_in begins.rules last.taker.phase fault now begins.same
      (told_map told (λ folder. Kept folder → HaltsIn list_kind (spans_told format waits folder spans) first.taker last.taker u now) (λ folder. Kept folder → PhaseStopped list_kind begins.rules (remembered_of keep []) (behind folder) last.taker.phase now) (λ folder halts kept.
      (halts kept).within begins.rules (remembered_of keep []) nothing (held first.taker u none begins) (behind folder) (later_same (behind folder))) halted)

  -- of CSV and TSV, whose columns stay once they are set
  pub told_behind : SetsOnce format → (P : Past → Type 0) → Told told (λ folder. AreKept format waits spans folder → P (past_behind format waits folder nothing spans)) → Told told (λ folder. AreKept format waits spans folder → P (past_of format waits folder spans))
  told_behind sets P = told_map told (λ folder. Kept folder → P (behind folder)) (λ folder. Kept folder → P (past_of format waits folder spans)) (λ folder so kept. subst P (behind_all format sets waits folder spans kept) (so kept))

-- ---- faults

pub unplanned_so : (fault : ListFault) (P Q : TypeFault → Type 0) → ((why : TypeFault) → P why → Q why) → OnUnplanned P fault → OnUnplanned Q fault
unplanned_so (F.Plan fault) P Q so p = so fault p
unplanned_so (F.Bad log row) P Q so p = tt
unplanned_so F.Logs P Q so p = tt
unplanned_so F.Memory P Q so p = tt

pub bad_in : {M T : Type 0} (phase : Phase M T) (fault : RunFault) (Q : BadLine → Type 0) → OnBadLine fault Q → OnBad Q (fault_in phase fault)
bad_in (P.Gathering gathering) fault Q q = bad_read fault Q q
bad_in (P.Taking taker) fault Q q = bad_read fault Q q
bad_in (P.Refused plan) fault Q q = tt
bad_in P.Lost fault Q q = bad_read fault Q q

pub logs_in : {M T : Type 0} (phase : Phase M T) (fault : RunFault) → fault_in phase fault ≡ F.Logs → fault ≡ R.Logs
logs_in (P.Gathering gathering) fault e = logs_read fault e
logs_in (P.Taking taker) fault e = logs_read fault e
logs_in (P.Refused plan) fault e = absurd cc
logs_in P.Lost fault e = logs_read fault e

pub bad_end : (fault : ListFault) (Q : BadLine → Type 0) → IsOfEnd fault → OnBad Q fault
bad_end (F.Plan fault) Q end = tt
bad_end (F.Bad log row) Q end = absurd end
bad_end F.Logs Q end = absurd end
bad_end F.Memory Q end = tt
