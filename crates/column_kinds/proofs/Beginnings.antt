-- A taker that was made for the columns, and has taken what was kept.
use Rattle.std.proofs.Common.{◌≡◌, ℕ, List, [], ◌∷◌, map, ap, ap₂, sym, ◌∙◌, subst, refl, inl, inr}
use Rattle.lp_time.specs.declared.piece.Piece.{Piece}
use Rattle.log_reading.specs.Found.{Met}
use Rattle.column_kinds.specs.declared.judging.Judged.{Judged}
use Rattle.column_kinds.specs.declared.kept.KeptRow.{KeptRow}
use Rattle.column_kinds.specs.declared.maker.Stop.{Stop}
use Rattle.column_kinds.specs.declared.maker.Unmade.{Unmade}
use Rattle.column_kinds.specs.declared.maker.Unmade.TheVariants as U
use Rattle.column_kinds.specs.declared.phase.Gathering.{Gathering}
use Rattle.column_kinds.specs.declared.phase.Phase.{Phase}
use Rattle.column_kinds.specs.declared.phase.Phase.TheVariants as P
use Rattle.column_kinds.specs.Judged.{judged}
use Rattle.column_kinds.specs.Kept.{found_in, met_in}
use Rattle.column_kinds.specs.Laws.{IsTaker, rows_of-append, told_stays}
use Rattle.column_kinds.specs.Makers.{OnRefused, stop_unmade}
use Rattle.column_kinds.specs.Past.{Past, Later, IsTold}
use Rattle.column_kinds.specs.Sampling.{SampleKind, Rules, Asks, Begun, IsFront, IsStop, KeepsRecords, StopsAs, PhaseKeeps, TakesOn, rows_of, told_by}

pub rows_kept : (rows : List KeptRow) → map met_in rows ≡ rows_of (map found_in rows)
rows_kept [] = refl
rows_kept (row ∷ rows) = ap (λ t. met_in row ∷ t) (rows_kept rows)

told_same : {M O : Type 0} (limit : ℕ) (pattern : List Piece) (rules : Rules M) (start now : O) (past : Past) (gathering : Gathering M)
    → Asks limit pattern rules → KeepsRecords rules start past gathering now → judged limit pattern gathering.first (map found_in gathering.rows) ≡ told_by rules past
told_same limit pattern rules start now past gathering asks gathers =
    ap (λ n. judged n pattern gathering.first (map found_in gathering.rows)) asks.limit_is
    ∙ (ap (λ p. judged rules.limit p gathering.first (map found_in gathering.rows)) asks.pattern_is
    ∙ ap₂ (judged rules.limit rules.pattern) gathers.first gathers.rows)

-- the taker was made for the columns that the records tell
made_is : {M T O : Type 0} (kind : SampleKind M T O) (limit : ℕ) (pattern : List Piece) (rules : Rules M) (start now : O) (past : Past) (gathering : Gathering M) (made : T)
    → kind.makes gathering.maker (judged limit pattern gathering.first (map found_in gathering.rows)) made → Asks limit pattern rules → KeepsRecords rules start past gathering now → kind.makes rules.maker (told_by rules past) made
made_is {M = M} kind limit pattern rules start now past gathering made makes asks gathers =
    let Of : M → Judged → Type 0 = λ maker told. kind.makes maker told made in
    subst (λ (maker : M). Of maker (told_by rules past)) gathers.maker (subst (Of gathering.maker) (told_same limit pattern rules start now past gathering asks gathers) makes)

pub begun_is : {M T O : Type 0} (kind : SampleKind M T O) (limit : ℕ) (pattern : List Piece) (gathering : Gathering M) (made taker : T) (u v : O)
    → kind.makes gathering.maker (judged limit pattern gathering.first (map found_in gathering.rows)) made → kind.takes made u (map met_in gathering.rows) taker v
    → (rules : Rules M) (start : O) (past : Past) → Asks limit pattern rules → KeepsRecords rules start past gathering u → Begun kind rules start past taker v
begun_is {O = O} kind limit pattern gathering made taker u v makes takes rules start past asks gathers =
    let Of : O → List Met → Type 0 = λ out mets. kind.takes made out mets taker v in
    record {
      made = made;
      is_made = made_is kind limit pattern rules start u past gathering made makes asks gathers;
      taken = subst (λ (out : O). Of out (rows_of past.founds)) gathers.nothing (subst (Of u) (rows_kept gathering.rows ∙ ap rows_of gathers.rows) takes);
    }

-- it stopped within what was kept, whatever comes behind it
pub begun_within : {M T O : Type 0} (kind : SampleKind M T O) (laws : IsTaker kind) (limit : ℕ) (pattern : List Piece) (gathering : Gathering M) (made last : T) (u v : O)
    → kind.makes gathering.maker (judged limit pattern gathering.first (map found_in gathering.rows)) made → kind.stops made u (map met_in gathering.rows) last v
    → (rules : Rules M) (start : O) (past later : Past) → Asks limit pattern rules → KeepsRecords rules start past gathering u → Later past later → told_by rules later ≡ told_by rules past → StopsAs kind rules start later last v
begun_within {O = O} kind laws limit pattern gathering made last u v makes stops rules start past later asks gathers follows stays =
    let Of : O → List Met → Type 0 = λ out mets. kind.stops made out mets last v in
    let here : Of start (rows_of past.founds) = subst (λ (out : O). Of out (rows_of past.founds)) gathers.nothing (subst (Of u) (rows_kept gathering.rows ∙ ap rows_of gathers.rows) stops) in
    record {
      made = made;
      is_made = subst (λ (told : Judged). kind.makes rules.maker told made) (sym stays) (made_is kind limit pattern rules start u past gathering made makes asks gathers);
      stopped = subst (Of start) (sym (rows_of-append past.founds follows.more) ∙ sym (ap rows_of follows.founds)) (laws.stops_more made last start v (rows_of past.founds) (rows_of follows.more) here);
    }

-- no taker was made
pub nothing_begun : {M T O : Type 0} (kind : SampleKind M T O) (limit : ℕ) (pattern : List Piece) (gathering : Gathering M) (unmade : Unmade) (u : O)
    → OnRefused unmade (kind.refuses gathering.maker (judged limit pattern gathering.first (map found_in gathering.rows)))
    → (rules : Rules M) (start : O) (past later : Past) → Asks limit pattern rules → KeepsRecords rules start past gathering u → told_by rules later ≡ told_by rules past → IsStop kind rules start later (stop_unmade unmade) u
nothing_begun {M = M} kind limit pattern gathering (U.Refused fault) u refused rules start past later asks gathers stays =
    let Of : M → Judged → Type 0 = λ maker told. kind.refuses maker told fault in
    record {
      refused = subst (λ (maker : M). Of maker (told_by rules later)) gathers.maker (subst (Of gathering.maker) (told_same limit pattern rules start u past gathering asks gathers ∙ sym stays) refused);
      nothing = gathers.nothing;
    }
nothing_begun kind limit pattern gathering U.Memory u refused rules start past later asks gathers stays = inl gathers.nothing

-- the taker failed
pub failed_begun : {M T O : Type 0} (kind : SampleKind M T O) (rules : Rules M) (start : O) (later : Past) (last : T) (v : O) → StopsAs kind rules start later last v → IsFront kind rules start later v
failed_begun kind rules start later last v stops = inr (record { last = last; stops = stops })

-- ---- the turn from keeping records to having them taken

pub turned : {M T O : Type 0} (kind : SampleKind M T O) (limit : ℕ) (pattern : List Piece) (phase : Phase M T) (gathering : Gathering M) (taker : T) (u v : O) → phase ≡ P.Gathering gathering
    → ((rules : Rules M) (start : O) (past : Past) → Asks limit pattern rules → KeepsRecords rules start past gathering u → Begun kind rules start past taker v)
    → (rules : Rules M) (start : O) (past : Past) → Asks limit pattern rules → PhaseKeeps rules start past phase u → IsTold rules.limit past → TakesOn kind rules start past taker v
turned {M = M} {T = T} kind limit pattern phase gathering taker u v is begun rules start past asks holds told =
    let Of : Phase M T → Type 0 = λ p. PhaseKeeps rules start past p u in
    record { told = told; begun = begun rules start past asks (subst Of is holds) }

pub turn_stopped : {M T O : Type 0} (kind : SampleKind M T O) (limit : ℕ) (pattern : List Piece) (phase : Phase M T) (gathering : Gathering M) (stop : Stop T) (u v : O) → phase ≡ P.Gathering gathering
    → ((rules : Rules M) (start : O) (past later : Past) → Asks limit pattern rules → KeepsRecords rules start past gathering u → Later past later → told_by rules later ≡ told_by rules past → IsStop kind rules start later stop v)
    → (rules : Rules M) (start : O) (past later : Past) → Asks limit pattern rules → PhaseKeeps rules start past phase u → IsTold rules.limit past → Later past later → IsStop kind rules start later stop v
turn_stopped {M = M} {T = T} kind limit pattern phase gathering stop u v is stopped rules start past later asks holds told follows =
    let Of : Phase M T → Type 0 = λ p. PhaseKeeps rules start past p u in
    stopped rules start past later asks (subst Of is holds) follows (told_stays rules past later told follows)

-- while records are kept nothing has come out
pub keeps_front : {M T O : Type 0} (kind : SampleKind M T O) (rules : Rules M) (start now : O) (past later : Past) (phase : Phase M T) → PhaseKeeps rules start past phase now → IsFront kind rules start later now
keeps_front kind rules start now past later (P.Gathering gathering) keeps = inl keeps.nothing
keeps_front kind rules start now past later (P.Taking taker) keeps = absurd keeps
keeps_front kind rules start now past later (P.Refused fault) keeps = absurd keeps
keeps_front kind rules start now past later P.Lost keeps = absurd keeps
