-- What is known of a run's records so far, and the columns that they tell.
use Rattle.std.specs.Prelude.{◌≡◌, ◌<◌, ◌≤◌, ℕ, List, [], ◌∷◌, ◌++◌, length, Option, Some, None}
use Rattle.lp_model.specs.Reading.{Columns}
use Rattle.lp_time.specs.declared.piece.Piece.{Piece}
use Rattle.log_reading.specs.Found.{Found, Met, row_met, log_ended}
use Rattle.column_kinds.specs.declared.judging.Judged.{Judged}
use Rattle.column_kinds.specs.declared.kept.FirstLog.{FirstLog}
use Rattle.column_kinds.specs.Judged.{judged}

-- the records so far, and the first log that has columns, if one is known
pub record Past : Type 0 where
  pub first : Option FirstLog
  pub founds : List Found

-- before the first record
abbrev pub nothing : Past
nothing = record { first = None; founds = [] }

abbrev pub columns_or : Option Columns → Columns
columns_or None = []
columns_or (Some columns) = columns

-- the log of a record
abbrev pub log_of : Found → FirstLog
log_of found = record { identity = found.identity; columns = columns_or found.row.columns }

-- the first log, which is that of the first of these records where none is known yet
abbrev pub first_seen : Option FirstLog → List Found → Option FirstLog
first_seen (Some first) founds = Some first
first_seen None [] = None
first_seen None (found ∷ founds) = Some (log_of found)

-- these records too
abbrev pub past_with : Past → List Found → Past
past_with past founds = record { first = first_seen past.first founds; founds = past.founds ++ founds }

abbrev pub log_with : List ℕ → Option Columns → Option FirstLog
log_with identity None = None
log_with identity (Some columns) = Some (record { identity = identity; columns = columns })

abbrev pub or_first : Option FirstLog → Option FirstLog → Option FirstLog
or_first (Some first) other = Some first
or_first None other = other

-- a log is the first, if it has columns and none is known yet
abbrev pub noted : Past → List ℕ → Option Columns → Past
noted past identity columns = record { first = or_first past.first (log_with identity columns); founds = past.founds }

-- what is known behind all that is met: records, and the ends of logs with their columns
abbrev pub past_met : Past → List Met → Past
past_met past [] = past
past_met past (row_met found ∷ mets) = past_met (past_with past (found ∷ [])) mets
past_met past (log_ended identity columns ∷ mets) = past_met (noted past identity columns) mets

-- what may become of it: more records; a log that is known stays
pub record Later (before after : Past) : Type 0 where
  pub more : List Found
  pub founds : after.founds ≡ before.founds ++ more
  pub first : (log : FirstLog) → before.first ≡ Some log → after.first ≡ Some log

-- the columns that the records tell, their kinds judged from so many of them, and times read by a pattern
abbrev pub told_at : ℕ → List Piece → Past → Judged
told_at limit pattern past = judged limit pattern past.first past.founds

-- as many records as kinds are judged from, and one at least: the sample is there
abbrev pub AreEnough : ℕ → List Found → Type 0
AreEnough limit founds = (0 < length founds) × (limit ≤ length founds)

-- the first log is known, and there are records enough to judge its columns: no later record changes them
pub record IsTold (limit : ℕ) (past : Past) : Type 0 where
  pub log : FirstLog
  pub known : past.first ≡ Some log
  pub some : 0 < length past.founds
  pub enough : limit ≤ length past.founds
