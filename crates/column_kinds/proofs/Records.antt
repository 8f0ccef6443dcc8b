-- One record more.
use Rattle.std.proofs.Common.{◌≡◌, ℕ, ◌≤◌, List, [], ◌∷◌, ◌++◌, length, map, Option, Some, None, ap, sym, ◌∙◌, refl, subst, inl, arith, append_assoc, length-append}
use Rattle.std.proofs.lemmas.List.{append-nil, length-map}
use Rattle.log_reading.specs.Found.{Found, Met, row_met}
use Rattle.query_types.specs.declared.fault.TypeFault.{TypeFault}
use Rattle.column_kinds.specs.declared.judging.Judged.{Judged}
use Rattle.column_kinds.specs.declared.kept.FirstLog.{FirstLog}
use Rattle.column_kinds.specs.declared.phase.Gathering.{Gathering}
use Rattle.column_kinds.specs.declared.phase.Phase.{Phase}
use Rattle.column_kinds.specs.declared.phase.Phase.TheVariants as P
use Rattle.column_kinds.specs.declared.phase.Sampled.{Sampled}
use Rattle.column_kinds.specs.Kept.{found_in}
use Rattle.column_kinds.specs.Laws.{Halts, IsTaker, later_with, rows_of-append, told_stays}
use Rattle.column_kinds.specs.Past.{Past, AreEnough, Later, IsTold, first_seen, log_of, past_with}
use Rattle.column_kinds.specs.Sampling.{SampleKind, Rules, Asks, Holds, KeepsRecords, PhaseHolds, PhaseStopped, TakesOn, StopsAs, rows_of}

-- ---- a record that is kept

keeps_more : {M O : Type 0} (rules : Rules M) (start now : O) (past : Past) (old new : Gathering M) (found : Found)
    → new.first ≡ first_seen old.first (found ∷ []) → map found_in new.rows ≡ map found_in old.rows ++ found ∷ [] → new.maker ≡ old.maker
    → KeepsRecords rules start past old now → KeepsRecords rules start (past_with past (found ∷ [])) new now
keeps_more rules start now past old new found first rows maker keeps = record {
  maker = maker ∙ keeps.maker;
  first = first ∙ ap (λ (f : Option FirstLog). first_seen f (found ∷ [])) keeps.first;
  rows = rows ∙ ap (λ t. t ++ found ∷ []) keeps.rows;
  nothing = keeps.nothing;
}

-- where fewer records are kept than kinds are judged from, the sample isn't there
still_few : {M O : Type 0} (rules : Rules M) (start now : O) (past : Past) (limit : ℕ) (last : Gathering M) → limit ≡ rules.limit → (limit ≤ length last.rows → ⊥) → KeepsRecords rules start past last now → AreEnough rules.limit past.founds → ⊥
still_few rules start now past limit last same few keeps are =
    let size : length last.rows ≡ length past.founds = sym (length-map last.rows found_in) ∙ ap length keeps.rows in
    let enough = are.1 in
    few (omega arith)

log_known : (first : Option FirstLog) (found : Found) → (log : FirstLog) × (first_seen first (found ∷ []) ≡ Some log)
log_known (Some log) found = (log, refl)
log_known None found = (log_of found, refl)

-- with the last record the columns are told
told_now : {M O : Type 0} (rules : Rules M) (start now : O) (past : Past) (new : Gathering M) (found : Found)
    → rules.limit ≤ length new.rows → KeepsRecords rules start (past_with past (found ∷ [])) new now → IsTold rules.limit (past_with past (found ∷ []))
told_now rules start now past new found enough keeps =
    let known = log_known past.first found in
    let kept : length new.rows ≡ length (past.founds ++ found ∷ []) = sym (length-map new.rows found_in) ∙ ap length keeps.rows in
    let size = length-append past.founds (found ∷ []) in
    record { log = known.0; known = known.1; some = omega arith; enough = omega arith }

-- ---- a record that is taken

told_more : (limit : ℕ) (past : Past) (founds : List Found) → IsTold limit past → IsTold limit (past_with past founds)
told_more limit past founds is =
    let size = length-append past.founds founds in
    let some = is.some in
    let enough = is.enough in
    record { log = is.log; known = ap (λ (f : Option FirstLog). first_seen f founds) is.known; some = omega arith; enough = omega arith }

takes_on : {M T O : Type 0} (kind : SampleKind M T O) (laws : IsTaker kind) (rules : Rules M) (start u v : O) (past : Past) (old new : T) (found : Found)
    → kind.takes old u (row_met found ∷ []) new v → TakesOn kind rules start past old u → TakesOn kind rules start (past_with past (found ∷ [])) new v
takes_on kind laws rules start u v past old new found takes on =
    let begun = on.begun in
    let stays = told_stays rules past (past_with past (found ∷ [])) on.told (later_with past (found ∷ [])) in
    let Of : List Met → Type 0 = λ mets. kind.takes begun.made start mets new v in
    record {
      told = told_more rules.limit past (found ∷ []) on.told;
      begun = record {
        made = begun.made;
        is_made = subst (λ (told : Judged). kind.makes rules.maker told begun.made) (sym stays) begun.is_made;
        taken = subst Of (sym (rows_of-append past.founds (found ∷ []))) (laws.takes_more begun.made old new start u v (rows_of past.founds) (row_met found ∷ []) begun.taken takes);
      };
    }

stops_on : {M T O : Type 0} (kind : SampleKind M T O) (laws : IsTaker kind) (rules : Rules M) (start u v : O) (past later : Past) (old last : T) (found : Found)
    → kind.stops old u (row_met found ∷ []) last v → TakesOn kind rules start past old u → Later (past_with past (found ∷ [])) later → StopsAs kind rules start later last v
stops_on kind laws rules start u v past later old last found stops on follows =
    let begun = on.begun in
    let all : later.founds ≡ past.founds ++ (found ∷ follows.more) = follows.founds ∙ append_assoc past.founds (found ∷ []) follows.more in
    let after : Later past later = record { more = found ∷ follows.more; founds = all; first = λ log known. follows.first log (ap (λ (f : Option FirstLog). first_seen f (found ∷ [])) known) } in
    let stays = told_stays rules past later on.told after in
    let Of : List Met → Type 0 = λ mets. kind.stops begun.made start mets last v in
    let here : Of (rows_of (past.founds ++ found ∷ [])) =
    subst Of (sym (rows_of-append past.founds (found ∷ []))) (laws.stops_later begun.made old last start u v (rows_of past.founds) (row_met found ∷ []) begun.taken stops) in
    record {
      made = begun.made;
      is_made = subst (λ (told : Judged). kind.makes rules.maker told begun.made) (sym stays) begun.is_made;
      stopped = subst Of (sym (rows_of-append (past.founds ++ found ∷ []) follows.more) ∙ sym (ap rows_of follows.founds))
          (laws.stops_more begun.made last start v (rows_of (past.founds ++ found ∷ [])) (rows_of follows.more) here);
    }

-- ---- the phases

-- whatever the records before, the phase stands for this one too
abbrev pub SamplesTo : {M T O : Type 0} → SampleKind M T O → Sampled M T → O → Found → Phase M T → O → Type 0
SamplesTo {M = M} {O = O} kind old before found phase now = (rules : Rules M) (start : O) (past : Past) → Holds kind rules start past old before → PhaseHolds kind rules start (past_with past (found ∷ [])) phase now

-- whatever the records before and those that follow, it has stopped within this one
abbrev pub HaltsAt : {M T O : Type 0} → SampleKind M T O → Sampled M T → O → Found → Phase M T → O → Type 0
HaltsAt {M = M} {O = O} kind old before found phase now = (rules : Rules M) (start : O) (past : Past) → Holds kind rules start past old before → (later : Past) → Later (past_with past (found ∷ [])) later → PhaseStopped kind rules start later phase now

pub phase_is : {M T O : Type 0} (kind : SampleKind M T O) (rules : Rules M) (start now : O) (past : Past) (old : Sampled M T) (phase : Phase M T) → old.phase ≡ phase → Holds kind rules start past old now → PhaseHolds kind rules start past phase now
phase_is {M = M} {T = T} kind rules start now past old phase is holds =
    let Of : Phase M T → Type 0 = λ p. PhaseHolds kind rules start past p now in
    subst Of is holds.phase

pub samples_taking : {M T O : Type 0} (kind : SampleKind M T O) (laws : IsTaker kind) (old : Sampled M T) (first last : T) (u v : O) (found : Found)
    → old.phase ≡ P.Taking first → kind.takes first u (row_met found ∷ []) last v → SamplesTo kind old u found (P.Taking last) v
samples_taking kind laws old first last u v found is takes = λ rules start past holds.
    takes_on kind laws rules start u v past first last found takes (phase_is kind rules start u past old (P.Taking first) is holds)

pub halts_taking : {M T O : Type 0} (kind : SampleKind M T O) (laws : IsTaker kind) (old : Sampled M T) (first last : T) (u v : O) (found : Found)
    → old.phase ≡ P.Taking first → kind.stops first u (row_met found ∷ []) last v → HaltsAt kind old u found (P.Taking last) v
halts_taking kind laws old first last u v found is stops = λ rules start past holds later follows.
    stops_on kind laws rules start u v past later first last found stops (phase_is kind rules start u past old (P.Taking first) is holds) follows

-- the taker handed on what it had, and nothing was met
pub samples_handed : {M T O : Type 0} (kind : SampleKind M T O) (laws : IsTaker kind) (old : Sampled M T) (first last : T) (u v : O)
    → old.phase ≡ P.Taking first → kind.takes first u [] last v → (rules : Rules M) (start : O) (past : Past) → Holds kind rules start past old u → PhaseHolds kind rules start past (P.Taking last) v
samples_handed kind laws old first last u v is takes rules start past holds =
    let on = phase_is kind rules start u past old (P.Taking first) is holds in
    let begun = on.begun in
    record {
      told = on.told;
      begun = record {
        made = begun.made;
        is_made = begun.is_made;
        taken = subst (λ (mets : List Met). kind.takes begun.made start mets last v) (append-nil (rows_of past.founds)) (laws.takes_more begun.made first last start u v (rows_of past.founds) [] begun.taken takes);
      };
    }

pub halts_handed : {M T O : Type 0} (kind : SampleKind M T O) (laws : IsTaker kind) (old : Sampled M T) (first last : T) (u v : O)
    → old.phase ≡ P.Taking first → kind.stops first u [] last v → (rules : Rules M) (start : O) (past : Past) → Holds kind rules start past old u → (later : Past) → Later past later → PhaseStopped kind rules start later (P.Taking last) v
halts_handed kind laws old first last u v is stops rules start past holds later follows =
    let on = phase_is kind rules start u past old (P.Taking first) is holds in
    let begun = on.begun in
    let Of : List Met → Type 0 = λ mets. kind.stops begun.made start mets last v in
    let here : Of (rows_of past.founds) = subst Of (append-nil (rows_of past.founds)) (laws.stops_later begun.made first last start u v (rows_of past.founds) [] begun.taken stops) in
    record {
      made = begun.made;
      is_made = subst (λ (told : Judged). kind.makes rules.maker told begun.made) (sym (told_stays rules past later on.told follows)) begun.is_made;
      stopped = subst Of (sym (rows_of-append past.founds follows.more) ∙ sym (ap rows_of follows.founds))
          (laws.stops_more begun.made last start v (rows_of past.founds) (rows_of follows.more) here);
    }

pub samples_gathering : {M T O : Type 0} (kind : SampleKind M T O) (old : Sampled M T) (first last : Gathering M) (u : O) (found : Found)
    → old.phase ≡ P.Gathering first → last.first ≡ first_seen first.first (found ∷ []) → map found_in last.rows ≡ map found_in first.rows ++ found ∷ [] → last.maker ≡ first.maker → (old.limit ≤ length last.rows → ⊥)
    → SamplesTo kind old u found (P.Gathering last) u
samples_gathering kind old first last u found is log rows maker few = λ rules start past holds.
    let keeps = keeps_more rules start u past first last found log rows maker (phase_is kind rules start u past old (P.Gathering first) is holds).kept in
    record { kept = keeps; waiting = still_few rules start u (past_with past (found ∷ [])) old.limit last holds.asks.limit_is few keeps }

-- a record that couldn't be kept
pub halts_gathering : {M T O : Type 0} (kind : SampleKind M T O) (old : Sampled M T) (first last : Gathering M) (u : O) (found : Found) → old.phase ≡ P.Gathering first → HaltsAt kind old u found (P.Gathering last) u
halts_gathering kind old first last u found is = λ rules start past holds later follows.
    inl (phase_is kind rules start u past old (P.Gathering first) is holds).kept.nothing

-- the record with which the columns are told
pub samples_turning : {M T O : Type 0} (kind : SampleKind M T O) (old : Sampled M T) (new : Phase M T) (first last : Gathering M) (u v : O) (found : Found)
    → old.phase ≡ P.Gathering first → last.first ≡ first_seen first.first (found ∷ []) → map found_in last.rows ≡ map found_in first.rows ++ found ∷ [] → last.maker ≡ first.maker → old.limit ≤ length last.rows
    → ((rules : Rules M) (start : O) (past : Past) → Asks old.limit old.pattern.now rules → KeepsRecords rules start past last u → IsTold rules.limit past → PhaseHolds kind rules start past new v)
    → SamplesTo kind old u found new v
samples_turning kind old new first last u v found is log rows maker enough turned = λ rules start past holds.
    let keeps = keeps_more rules start u past first last found log rows maker (phase_is kind rules start u past old (P.Gathering first) is holds).kept in
    let limit = holds.asks.limit_is in
    turned rules start (past_with past (found ∷ [])) holds.asks keeps (told_now rules start u past last found (omega arith) keeps)

pub halts_turning : {M T O : Type 0} (kind : SampleKind M T O) (old : Sampled M T) (new : Phase M T) (first last : Gathering M) (u v : O) (found : Found)
    → old.phase ≡ P.Gathering first → last.first ≡ first_seen first.first (found ∷ []) → map found_in last.rows ≡ map found_in first.rows ++ found ∷ [] → last.maker ≡ first.maker → old.limit ≤ length last.rows
    → ((rules : Rules M) (start : O) (past later : Past) → Asks old.limit old.pattern.now rules → KeepsRecords rules start past last u → IsTold rules.limit past → Later past later → PhaseStopped kind rules start later new v)
    → HaltsAt kind old u found new v
halts_turning kind old new first last u v found is log rows maker enough stopped = λ rules start past holds later follows.
    let keeps = keeps_more rules start u past first last found log rows maker (phase_is kind rules start u past old (P.Gathering first) is holds).kept in
    let limit = holds.asks.limit_is in
    stopped rules start (past_with past (found ∷ [])) later holds.asks keeps (told_now rules start u past last found (omega arith) keeps) follows

-- ---- where the columns are judged

-- whatever the records before, the sample is there with this one
abbrev pub JudgedAt : {M T O : Type 0} → SampleKind M T O → Sampled M T → O → Found → Type 0
JudgedAt {M = M} {O = O} kind old before found = (rules : Rules M) (start : O) (past : Past) → Holds kind rules start past old before → IsTold rules.limit (past_with past (found ∷ []))

pub judged_taking : {M T O : Type 0} (kind : SampleKind M T O) (old : Sampled M T) (first : T) (u : O) (found : Found) → old.phase ≡ P.Taking first → JudgedAt kind old u found
judged_taking kind old first u found is = λ rules start past holds.
    told_more rules.limit past (found ∷ []) (phase_is kind rules start u past old (P.Taking first) is holds).told

pub judged_turning : {M T O : Type 0} (kind : SampleKind M T O) (old : Sampled M T) (first last : Gathering M) (u : O) (found : Found)
    → old.phase ≡ P.Gathering first → last.first ≡ first_seen first.first (found ∷ []) → map found_in last.rows ≡ map found_in first.rows ++ found ∷ [] → last.maker ≡ first.maker → old.limit ≤ length last.rows
    → JudgedAt kind old u found
judged_turning kind old first last u found is log rows maker enough = λ rules start past holds.
    let keeps = keeps_more rules start u past first last found log rows maker (phase_is kind rules start u past old (P.Gathering first) is holds).kept in
    let limit = holds.asks.limit_is in
    told_now rules start u past last found (omega arith) keeps

-- nothing was met
pub judged_handed : {M T O : Type 0} (kind : SampleKind M T O) (old : Sampled M T) (first : T) (u : O) → old.phase ≡ P.Taking first → (rules : Rules M) (start : O) (past : Past) → Holds kind rules start past old u → IsTold rules.limit past
judged_handed kind old first u is rules start past holds = (phase_is kind rules start u past old (P.Taking first) is holds).told

-- nothing is taken behind a refusal
pub halts_refused : {M T O : Type 0} (kind : SampleKind M T O) (old new : Sampled M T) (u v : O) (mets : List Met) (fault : TypeFault) → old.phase ≡ P.Refused fault → Halts kind old u mets new v
halts_refused kind old new u v mets fault is = record {
  within = λ rules start past holds later follows. absurd (phase_is kind rules start u past old (P.Refused fault) is holds);
  judged = λ rules start past holds. absurd (phase_is kind rules start u past old (P.Refused fault) is holds);
}

pub halts_lost : {M T O : Type 0} (kind : SampleKind M T O) (old new : Sampled M T) (u v : O) (mets : List Met) → old.phase ≡ P.Lost → Halts kind old u mets new v
halts_lost kind old new u v mets is = record {
  within = λ rules start past holds later follows. absurd (phase_is kind rules start u past old P.Lost is holds);
  judged = λ rules start past holds. absurd (phase_is kind rules start u past old P.Lost is holds);
}
