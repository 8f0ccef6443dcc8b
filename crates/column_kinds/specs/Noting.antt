-- The columns of a log at its end are noted.
use Rattle.std.specs.Prelude.{◌≡◌, ℕ, List, Option}
use Rattle.lp_model.specs.Reading.{Columns}
use Rattle.column_kinds.specs.Past.{log_with, or_first}
use Rattle.column_kinds.specs.declared.phase.Gathering.{Gathering}
use Rattle.column_kinds.specs.declared.phase.Phase.{Phase}
use Rattle.column_kinds.specs.declared.phase.Phase.TheVariants as P
use Rattle.column_kinds.specs.declared.phase.Sampled.{Sampled}

-- a log is the first, if it has columns and none is known yet
pub record NotesFirst {M : Type 0} (identity : List ℕ) (columns : Option Columns) (old new : Gathering M) : Type 0 where
  pub first : new.first ≡ or_first old.first (log_with identity columns)
  pub rows : new.rows ≡ old.rows
  pub maker : new.maker ≡ old.maker

abbrev pub NotesIn : {M T : Type 0} → List ℕ → Option Columns → Phase M T → Phase M T → Type 0
NotesIn identity columns (P.Gathering old) (P.Gathering new) = NotesFirst identity columns old new
NotesIn identity columns (P.Gathering old) new = ⊥
NotesIn identity columns (P.Taking taker) new = new ≡ P.Taking taker
NotesIn identity columns (P.Refused fault) new = new ≡ P.Refused fault
NotesIn identity columns P.Lost new = new ≡ P.Lost

pub record Notes {M T : Type 0} (identity : List ℕ) (columns : Option Columns) (old new : Sampled M T) : Type 0 where
  pub limit : new.limit ≡ old.limit
  pub pattern : new.pattern.now ≡ old.pattern.now
  pub phase : NotesIn identity columns old.phase new.phase
