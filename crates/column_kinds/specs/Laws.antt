-- How a taker behind a sample takes records, and what follows.
use Rattle.std.specs.Prelude.{◌≡◌, ◌+◌, ℕ, List, [], ◌∷◌, ◌++◌, length, Option, Some, None}
use Rattle.std.proofs.Common.{ap, ap₂, sym, ◌∙◌, refl, subst, append_assoc, inl, inr, arith, length-append}
use Rattle.std.proofs.lemmas.List.{append-nil, map-append}
use Rattle.log_reading.specs.Found.{Found, Met, row_met, log_ended}
use Rattle.column_kinds.specs.declared.judging.Judged.{Judged}
use Rattle.column_kinds.specs.declared.kept.FirstLog.{FirstLog}
use Rattle.column_kinds.specs.declared.phase.Phase.{Phase}
use Rattle.column_kinds.specs.declared.phase.Phase.TheVariants as P
use Rattle.column_kinds.specs.declared.phase.Sampled.{Sampled}
use Rattle.column_kinds.specs.Judged.{judged}
use Rattle.column_kinds.specs.Past.{Past, Later, IsTold, first_seen, past_with, or_first, log_with, noted, past_met}
use Rattle.column_kinds.specs.Phases.{OnJudged}
use Rattle.column_kinds.specs.Sampling.{SampleKind, Rules, told_by, rows_of, Begun, PhaseHolds, Holds, IsFront, StopsAs, PhaseStopped}
use Rattle.column_kinds.specs.Staying.{judged_stays}

-- whatever is known before, it has taken all that is met here too
pub record Samples {M T O : Type 0} (kind : SampleKind M T O) (old : Sampled M T) (before : O) (mets : List Met) (new : Sampled M T) (now : O) : Type 0 where
  pub along : (rules : Rules M) (start : O) (past : Past) → Holds kind rules start past old before → Holds kind rules start (past_met past mets) new now

-- whatever is known before and whatever follows, it has stopped within what is met here; where the columns are judged, that has the whole sample
pub record Halts {M T O : Type 0} (kind : SampleKind M T O) (old : Sampled M T) (before : O) (mets : List Met) (new : Sampled M T) (now : O) : Type 0 where
  pub within : (rules : Rules M) (start : O) (past : Past) → Holds kind rules start past old before → (later : Past) → Later (past_met past mets) later → PhaseStopped kind rules start later new.phase now
  pub judged : (rules : Rules M) (start : O) (past : Past) → Holds kind rules start past old before → OnJudged new.phase (IsTold rules.limit (past_met past mets))

-- the laws of the taker that is made
pub record IsTaker {M T O : Type 0} (kind : SampleKind M T O) : Type 0 where
  pub takes_more : (a b c : T) (u v w : O) (xs ys : List Met) → kind.takes a u xs b v → kind.takes b v ys c w → kind.takes a u (xs ++ ys) c w
  pub stops_here : (a b : T) (u v : O) (xs ys : List Met) → kind.takes a u xs b v → kind.stops a u (xs ++ ys) b v
  pub stops_later : (a b c : T) (u v w : O) (xs ys : List Met) → kind.takes a u xs b v → kind.stops b v ys c w → kind.stops a u (xs ++ ys) c w
  pub stops_more : (a c : T) (u w : O) (xs ys : List Met) → kind.stops a u xs c w → kind.stops a u (xs ++ ys) c w

-- ---- the records so far

first_seen-append : (first : Option FirstLog) (xs ys : List Found) → first_seen (first_seen first xs) ys ≡ first_seen first (xs ++ ys)
first_seen-append (Some log) xs ys = refl
first_seen-append None [] ys = refl
first_seen-append None (x ∷ xs) ys = refl

abbrev past_of : Option FirstLog → List Found → Past
past_of first founds = record { first = first; founds = founds }

pub past_with-append : (past : Past) (xs ys : List Found) → past_with (past_with past xs) ys ≡ past_with past (xs ++ ys)
past_with-append past xs ys = ap₂ past_of (first_seen-append past.first xs ys) (append_assoc past.founds xs ys)

first_seen-none : (first : Option FirstLog) → first_seen first [] ≡ first
first_seen-none (Some log) = refl
first_seen-none None = refl

pub past_with-none : (past : Past) → past_with past [] ≡ past
past_with-none past = ap₂ past_of (first_seen-none past.first) (append-nil past.founds)

pub later_same : (past : Past) → Later past past
later_same past = record { more = []; founds = sym (append-nil past.founds); first = λ log known. known }

pub later_with : (past : Past) (founds : List Found) → Later past (past_with past founds)
later_with past founds = record { more = founds; founds = refl; first = λ log known. ap (λ first. first_seen first founds) known }

pub later_noted : (past : Past) (identity : List ℕ) (columns : Option (List (List ℕ))) → Later past (noted past identity columns)
later_noted past identity columns = record { more = []; founds = sym (append-nil past.founds); first = λ log known. ap (λ first. or_first first (log_with identity columns)) known }

pub later_trans : (a b c : Past) → Later a b → Later b c → Later a c
later_trans a b c f s = record {
  more = f.more ++ s.more;
  founds = s.founds ∙ (ap (λ t. t ++ s.more) f.founds ∙ append_assoc a.founds f.more s.more);
  first = λ log known. s.first log (f.first log known);
}

pub past_met-append : (past : Past) (xs ys : List Met) → past_met (past_met past xs) ys ≡ past_met past (xs ++ ys)
past_met-append past [] ys = refl
past_met-append past (row_met found ∷ xs) ys = past_met-append (past_with past (found ∷ [])) xs ys
past_met-append past (log_ended identity columns ∷ xs) ys = past_met-append (noted past identity columns) xs ys

pub later_met : (past : Past) (mets : List Met) → Later past (past_met past mets)
later_met past [] = later_same past
later_met past (row_met found ∷ mets) =
    let next = past_with past (found ∷ []) in
    later_trans past next (past_met next mets) (later_with past (found ∷ [])) (later_met next mets)
later_met past (log_ended identity columns ∷ mets) =
    let next = noted past identity columns in
    later_trans past next (past_met next mets) (later_noted past identity columns) (later_met next mets)

-- ---- what is judged stays

pub told_stays : {M : Type 0} (rules : Rules M) (past later : Past) → IsTold rules.limit past → Later past later → told_by rules later ≡ told_by rules past
told_stays rules past later is follows =
    ap₂ (judged rules.limit rules.pattern) (follows.first is.log is.known) follows.founds
    ∙ (judged_stays rules.limit rules.pattern is.log past.founds follows.more is.some is.enough
    ∙ ap (λ first. judged rules.limit rules.pattern first past.founds) (sym is.known))

-- the sample that is there stays there
pub told_later : (limit : ℕ) (past later : Past) → IsTold limit past → Later past later → IsTold limit later
told_later limit past later is follows =
    let size : length later.founds ≡ length past.founds + length follows.more = ap length follows.founds ∙ length-append past.founds follows.more in
    let some = is.some in
    let enough = is.enough in
    record { log = is.log; known = follows.first is.log is.known; some = Prim.omega arith; enough = Prim.omega arith }

told_met : (limit : ℕ) (past : Past) (xs ys : List Met) → IsTold limit (past_met past xs) → IsTold limit (past_met past (xs ++ ys))
told_met limit past xs ys is =
    let Of : Past → Type 0 = λ p. IsTold limit p in
    subst Of (past_met-append past xs ys) (told_later limit (past_met past xs) (past_met (past_met past xs) ys) is (later_met (past_met past xs) ys))

pub rows_of-append : (xs ys : List Found) → rows_of (xs ++ ys) ≡ rows_of xs ++ rows_of ys
rows_of-append xs ys = map-append row_met xs ys

-- the taker has taken the front of what there is
pub within_later : {M T O : Type 0} (kind : SampleKind M T O) (laws : IsTaker kind) (rules : Rules M) (start now : O) (past later : Past) (taker : T)
    → told_by rules later ≡ told_by rules past → Later past later → Begun kind rules start past taker now → StopsAs kind rules start later taker now
within_later {O = O} kind laws rules start now past later taker same follows begun =
    let Of : List Met → Type 0 = λ t. kind.stops begun.made start t taker now in
    record {
      made = begun.made;
      is_made = subst (λ (told : Judged). kind.makes rules.maker told begun.made) (sym same) begun.is_made;
      stopped = subst Of (sym (rows_of-append past.founds follows.more) ∙ sym (ap rows_of follows.founds))
          (laws.stops_here begun.made taker start now (rows_of past.founds) (rows_of follows.more) begun.taken);
    }

pub phase_front : {M T O : Type 0} (kind : SampleKind M T O) (laws : IsTaker kind) (rules : Rules M) (start now : O) (past later : Past) (phase : Phase M T)
    → Later past later → PhaseHolds kind rules start past phase now → IsFront kind rules start later now
phase_front kind laws rules start now past later (P.Gathering gathering) follows holds = inl holds.kept.nothing
phase_front kind laws rules start now past later (P.Taking taker) follows holds = inr (record { last = taker; stops = within_later kind laws rules start now past later taker (told_stays rules past later holds.told follows) follows holds.begun })
phase_front kind laws rules start now past later (P.Refused fault) follows holds = absurd holds
phase_front kind laws rules start now past later P.Lost follows holds = absurd holds

pub phase_stopped : {M T O : Type 0} (kind : SampleKind M T O) (laws : IsTaker kind) (rules : Rules M) (start now : O) (past later : Past) (phase : Phase M T)
    → Later past later → PhaseHolds kind rules start past phase now → PhaseStopped kind rules start later phase now
phase_stopped kind laws rules start now past later (P.Gathering gathering) follows holds = phase_front kind laws rules start now past later (P.Gathering gathering) follows holds
phase_stopped kind laws rules start now past later (P.Taking taker) follows holds = within_later kind laws rules start now past later taker (told_stays rules past later holds.told follows) follows holds.begun
phase_stopped kind laws rules start now past later (P.Refused fault) follows holds = absurd holds
phase_stopped kind laws rules start now past later P.Lost follows holds = absurd holds

-- ---- where the columns are judged

pub judged_so : {M T : Type 0} (phase : Phase M T) (A B : Type 0) → (A → B) → OnJudged phase A → OnJudged phase B
judged_so (P.Gathering gathering) A B so a = tt
judged_so (P.Taking taker) A B so a = so a
judged_so (P.Refused fault) A B so a = so a
judged_so P.Lost A B so a = tt

-- what holds anyway holds there
pub judged_anyway : {M T : Type 0} (phase : Phase M T) (A : Type 0) → A → OnJudged phase A
judged_anyway (P.Gathering gathering) A a = tt
judged_anyway (P.Taking taker) A a = a
judged_anyway (P.Refused fault) A a = a
judged_anyway P.Lost A a = tt

-- a taker is made from a whole sample
pub phase_judged : {M T O : Type 0} (kind : SampleKind M T O) (rules : Rules M) (start now : O) (past : Past) (phase : Phase M T) → PhaseHolds kind rules start past phase now → OnJudged phase (IsTold rules.limit past)
phase_judged kind rules start now past (P.Gathering gathering) holds = tt
phase_judged kind rules start now past (P.Taking taker) holds = holds.told
phase_judged kind rules start now past (P.Refused fault) holds = absurd holds
phase_judged kind rules start now past P.Lost holds = absurd holds

-- ---- the laws of a taker

pub samples_none : {M T O : Type 0} (kind : SampleKind M T O) (s : Sampled M T) (w : O) → Samples kind s w [] s w
samples_none kind s w = record { along = λ rules start past holds. holds }

pub samples_more : {M T O : Type 0} (kind : SampleKind M T O) (a b c : Sampled M T) (u v w : O) (xs ys : List Met) → Samples kind a u xs b v → Samples kind b v ys c w → Samples kind a u (xs ++ ys) c w
samples_more kind a b c u v w xs ys f s = record {
  along = λ rules start past holds.
      let Of : Past → Type 0 = λ p. Holds kind rules start p c w in
      subst Of (past_met-append past xs ys) (s.along rules start (past_met past xs) (f.along rules start past holds));
}

front_later : (past : Past) (xs ys : List Met) (later : Past) → Later (past_met past (xs ++ ys)) later → Later (past_met past xs) later
front_later past xs ys later follows =
    let Of : Past → Type 0 = λ p. Later (past_met past xs) p in
    later_trans (past_met past xs) (past_met past (xs ++ ys)) later (subst Of (past_met-append past xs ys) (later_met (past_met past xs) ys)) follows

pub halts_here : {M T O : Type 0} (kind : SampleKind M T O) (laws : IsTaker kind) (a b : Sampled M T) (u v : O) (xs ys : List Met) → Samples kind a u xs b v → Halts kind a u (xs ++ ys) b v
halts_here kind laws a b u v xs ys f = record {
  within = λ rules start past holds later follows.
      phase_stopped kind laws rules start v (past_met past xs) later b.phase (front_later past xs ys later follows) (f.along rules start past holds).phase;
  judged = λ rules start past holds.
      judged_so b.phase (IsTold rules.limit (past_met past xs)) (IsTold rules.limit (past_met past (xs ++ ys))) (λ is. told_met rules.limit past xs ys is)
      (phase_judged kind rules start v (past_met past xs) b.phase (f.along rules start past holds).phase);
}

pub halts_later : {M T O : Type 0} (kind : SampleKind M T O) (a b c : Sampled M T) (u v w : O) (xs ys : List Met) → Samples kind a u xs b v → Halts kind b v ys c w → Halts kind a u (xs ++ ys) c w
halts_later kind a b c u v w xs ys f s = record {
  within = λ rules start past holds later follows.
      let Of : Past → Type 0 = λ p. Later p later in
      s.within rules start (past_met past xs) (f.along rules start past holds) later (subst Of (sym (past_met-append past xs ys)) follows);
  judged = λ rules start past holds.
      let Of : Past → Type 0 = λ p. OnJudged c.phase (IsTold rules.limit p) in
      subst Of (past_met-append past xs ys) (s.judged rules start (past_met past xs) (f.along rules start past holds));
}

pub halts_more : {M T O : Type 0} (kind : SampleKind M T O) (a c : Sampled M T) (u w : O) (xs ys : List Met) → Halts kind a u xs c w → Halts kind a u (xs ++ ys) c w
halts_more kind a c u w xs ys s = record {
  within = λ rules start past holds later follows. s.within rules start past holds later (front_later past xs ys later follows);
  judged = λ rules start past holds.
      judged_so c.phase (IsTold rules.limit (past_met past xs)) (IsTold rules.limit (past_met past (xs ++ ys))) (λ is. told_met rules.limit past xs ys is) (s.judged rules start past holds);
}
