-- What the state of a taker behind a sample stands for.
use Rattle.std.specs.Prelude.{◌≡◌, ◌⊎◌, ℕ, List, map}
use Rattle.lp_time.specs.declared.piece.Piece.{Piece}
use Rattle.log_reading.specs.Found.{Found, Met, row_met}
use Rattle.log_reading.specs.Page.{Takes, Stops}
use Rattle.query_types.specs.declared.fault.TypeFault.{TypeFault}
use Rattle.column_kinds.specs.declared.judging.Judged.{Judged}
use Rattle.column_kinds.specs.declared.phase.Gathering.{Gathering}
use Rattle.column_kinds.specs.declared.phase.Phase.{Phase}
use Rattle.column_kinds.specs.declared.phase.Phase.TheVariants as P
use Rattle.column_kinds.specs.declared.phase.Sampled.{Sampled}
use Rattle.column_kinds.specs.declared.maker.Stop.{Stop}
use Rattle.column_kinds.specs.declared.maker.Stop.TheVariants as S
use Rattle.column_kinds.specs.Kept.{found_in}
use Rattle.column_kinds.specs.Past.{Past, AreEnough, IsTold, told_at}

-- what a maker makes for the columns that are told, or by which fault it makes nothing; and how what it makes takes rows
pub record SampleKind (M T O : Type 0) : Type 1 where
  pub makes : M → Judged → T → Type 0
  pub refuses : M → Judged → TypeFault → Type 0
  pub takes : Takes T O
  pub stops : Stops T O

abbrev pub kind_of : {M T O : Type 0} → (M → Judged → T → Type 0) → (M → Judged → TypeFault → Type 0) → Takes T O → Stops T O → SampleKind M T O
kind_of makes refuses takes stops = record { makes = makes; refuses = refuses; takes = takes; stops = stops }

-- what a sample goes by: from how many records kinds are judged, how times are read, and who makes the taker
pub record Rules (M : Type 0) : Type 0 where
  pub limit : ℕ
  pub pattern : List Piece
  pub maker : M

abbrev pub rules_of : {M : Type 0} → ℕ → List Piece → M → Rules M
rules_of limit pattern maker = record { limit = limit; pattern = pattern; maker = maker }

-- the columns that the records tell
abbrev pub told_by : {M : Type 0} → Rules M → Past → Judged
told_by rules past = told_at rules.limit rules.pattern past

-- the rows of records are met
abbrev pub rows_of : List Found → List Met
rows_of founds = map row_met founds

-- all records are kept, and nothing has come out
pub record KeepsRecords {M O : Type 0} (rules : Rules M) (start : O) (past : Past) (gathering : Gathering M) (now : O) : Type 0 where
  pub maker : gathering.maker ≡ rules.maker
  pub first : gathering.first ≡ past.first
  pub rows : map found_in gathering.rows ≡ past.founds
  pub nothing : now ≡ start

-- the same, and the sample isn't there yet
pub record Gathers {M O : Type 0} (rules : Rules M) (start : O) (past : Past) (gathering : Gathering M) (now : O) : Type 0 where
  pub kept : KeepsRecords rules start past gathering now
  pub waiting : AreEnough rules.limit past.founds → ⊥

-- the taker for the columns that the records tell has taken them all
pub record Begun {M T O : Type 0} (kind : SampleKind M T O) (rules : Rules M) (start : O) (past : Past) (taker : T) (now : O) : Type 0 where
  pub made : T
  pub is_made : kind.makes rules.maker (told_by rules past) made
  pub taken : kind.takes made start (rows_of past.founds) taker now

-- the same, and no later record changes the columns
pub record TakesOn {M T O : Type 0} (kind : SampleKind M T O) (rules : Rules M) (start : O) (past : Past) (taker : T) (now : O) : Type 0 where
  pub told : IsTold rules.limit past
  pub begun : Begun kind rules start past taker now

abbrev pub PhaseHolds : {M T O : Type 0} → SampleKind M T O → Rules M → O → Past → Phase M T → O → Type 0
PhaseHolds kind rules start past (P.Gathering gathering) now = Gathers rules start past gathering now
PhaseHolds kind rules start past (P.Taking taker) now = TakesOn kind rules start past taker now
PhaseHolds kind rules start past (P.Refused fault) now = ⊥
PhaseHolds kind rules start past P.Lost now = ⊥

-- all records are kept, be they enough or not, and nothing has come out
abbrev pub PhaseKeeps : {M T O : Type 0} → Rules M → O → Past → Phase M T → O → Type 0
PhaseKeeps rules start past (P.Gathering gathering) now = KeepsRecords rules start past gathering now
PhaseKeeps rules start past (P.Taking taker) now = ⊥
PhaseKeeps rules start past (P.Refused fault) now = ⊥
PhaseKeeps rules start past P.Lost now = ⊥

-- it goes by these rules
pub record Asks {M : Type 0} (limit : ℕ) (pattern : List Piece) (rules : Rules M) : Type 0 where
  pub limit_is : limit ≡ rules.limit
  pub pattern_is : pattern ≡ rules.pattern

-- it goes by these rules, and its phase stands for these records
pub record Holds {M T O : Type 0} (kind : SampleKind M T O) (rules : Rules M) (start : O) (past : Past) (sampled : Sampled M T) (now : O) : Type 0 where
  pub asks : Asks sampled.limit sampled.pattern.now rules
  pub phase : PhaseHolds kind rules start past sampled.phase now

-- no taker is made for the columns, by this fault, and nothing has come out
pub record IsUnmade {M T O : Type 0} (kind : SampleKind M T O) (rules : Rules M) (start : O) (past : Past) (fault : TypeFault) (now : O) : Type 0 where
  pub refused : kind.refuses rules.maker (told_by rules past) fault
  pub nothing : now ≡ start

-- the taker for the columns stopped within these records, and this is its state
pub record StopsAs {M T O : Type 0} (kind : SampleKind M T O) (rules : Rules M) (start : O) (past : Past) (last : T) (now : O) : Type 0 where
  pub made : T
  pub is_made : kind.makes rules.maker (told_by rules past) made
  pub stopped : kind.stops made start (rows_of past.founds) last now

-- the taker for the columns stopped within these records
pub record IsWithin {M T O : Type 0} (kind : SampleKind M T O) (rules : Rules M) (start : O) (past : Past) (now : O) : Type 0 where
  pub last : T
  pub stops : StopsAs kind rules start past last now

-- nothing has come out, or the taker stopped within these records
abbrev pub IsFront : {M T O : Type 0} → SampleKind M T O → Rules M → O → Past → O → Type 0
IsFront kind rules start past now = (now ≡ start) ⊎ IsWithin kind rules start past now

-- how it stopped, of which these are all records
abbrev pub PhaseStopped : {M T O : Type 0} → SampleKind M T O → Rules M → O → Past → Phase M T → O → Type 0
PhaseStopped kind rules start past (P.Gathering gathering) now = IsFront kind rules start past now
PhaseStopped kind rules start past (P.Taking taker) now = StopsAs kind rules start past taker now
PhaseStopped kind rules start past (P.Refused fault) now = IsUnmade kind rules start past fault now
PhaseStopped kind rules start past P.Lost now = IsFront kind rules start past now

abbrev pub IsStop : {M T O : Type 0} → SampleKind M T O → Rules M → O → Past → Stop T → O → Type 0
IsStop kind rules start past (S.Refused fault) now = IsUnmade kind rules start past fault now
IsStop kind rules start past (S.Stopped taker) now = StopsAs kind rules start past taker now
IsStop kind rules start past S.Failed now = IsFront kind rules start past now
IsStop kind rules start past S.Memory now = IsFront kind rules start past now
