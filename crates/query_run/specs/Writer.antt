-- What a writer has put.
use Rattle.std.specs.Prelude.{◌≡◌, ◌⊎◌, true, List, [], ◌∷◌, ◌++◌, Option, Some, None, IfSome}
use Rattle.lp_values.specs.declared.value.Value.{Value}
use Rattle.log_reading.specs.Found.{Found}
use Rattle.log_reading.specs.declared.taker.TakeFault.{TakeFault}
use Rattle.log_reading.specs.declared.taker.TakeFault.TheVariants as T
use Rattle.text_output.specs.Output.{StageKind}
use Rattle.row_output.specs.Kept.{HasRows, asked_of}
use Rattle.row_output.specs.Rows.{IsRefused, IsRefusedEarly, Stops}
use Rattle.row_output.specs.declared.fault.OutputFault.{OutputFault}
use Rattle.row_output.specs.declared.fault.OutputFault.TheVariants as O
use Rattle.row_output.specs.declared.fault.Refused.{Refused}
use Rattle.row_output.specs.declared.kept.RowOutput.{RowOutput}
use Rattle.query_run.specs.Rows.{picked}
use Rattle.query_run.specs.declared.writer.Writer.{Writer}

-- a fault of the outputs, as one of a taker
abbrev pub take_fault : OutputFault → TakeFault
take_fault (O.Refused why) = T.Stopped
take_fault O.Failed = T.Failed
take_fault O.Memory = T.Memory

-- why an output is refused is kept
abbrev pub refused_by : Option Refused → OutputFault → Option Refused
refused_by refused (O.Refused why) = Some why
refused_by refused O.Failed = refused
refused_by refused O.Memory = refused

-- where the output of a name without stars was opened, it isn't refused
abbrev pub IsNamed : {P : Type 0} → Writer P → Type 0
IsNamed writer = writer.opened ≡ true → (why : Refused) → IsRefused (asked_of writer.output) [] why → ⊥

-- these rows were put behind those before, and nothing was refused
pub record PutsRows {P : Type 0} {S : Type 0} (kind : StageKind S) (put : List (List Value)) (old : Writer P) (before : S) (new : Writer P) (now : S) : Type 0 where
  pub has : (start : S) (rows : List (List Value)) → HasRows kind old.output start rows before → HasRows kind new.output start (rows ++ put) now
  pub asked : asked_of new.output ≡ asked_of old.output
  pub picker : new.picker ≡ old.picker
  pub refused : new.refused ≡ old.refused
  pub opened : old.opened ≡ true → new.opened ≡ true
  pub named : (start : S) (rows : List (List Value)) → HasRows kind old.output start rows before → IsNamed old → IsNamed new

-- it stopped within these rows, or behind them
pub record StopsWithin {P : Type 0} {S : Type 0} (kind : StageKind S) (put : List (List Value)) (old : Writer P) (before : S) (new : Writer P) (now : S) : Type 0 where
  pub stop : (start : S) (rows more : List (List Value)) → HasRows kind old.output start rows before → Stops kind (asked_of old.output) start (rows ++ (put ++ more)) now
  pub refused : old.refused ≡ None → (start : S) (rows more : List (List Value)) → HasRows kind old.output start rows before → IfSome new.refused (IsRefused (asked_of old.output) (rows ++ (put ++ more)))
  pub early : old.refused ≡ None → (start : S) (rows : List (List Value)) → HasRows kind old.output start rows before → IfSome new.refused (IsRefusedEarly (asked_of old.output))

-- no row was put
abbrev pub Opens : {P : Type 0} {S : Type 0} → StageKind S → Writer P → S → Writer P → S → Type 0
Opens kind old before new now = PutsRows kind [] old before new now

abbrev pub StopsAtOnce : {P : Type 0} {S : Type 0} → StageKind S → Writer P → S → Writer P → S → Type 0
StopsAtOnce kind old before new now = StopsWithin kind [] old before new now

-- since the start of a run no row was put
pub record Starts {P : Type 0} {S : Type 0} (kind : StageKind S) (output : RowOutput) (by : P) (start : S) (writer : Writer P) (now : S) : Type 0 where
  pub has : HasRows kind writer.output start [] now
  pub asked : asked_of writer.output ≡ asked_of output
  pub picker : writer.picker ≡ by
  pub unrefused : writer.refused ≡ None

-- one row was put
abbrev pub Puts : {P : Type 0} {S : Type 0} → StageKind S → List Value → Writer P → S → Writer P → S → Type 0
Puts kind row old before new now = PutsRows kind (row ∷ []) old before new now

abbrev pub StopsIn : {P : Type 0} {S : Type 0} → StageKind S → List Value → Writer P → S → Writer P → S → Type 0
StopsIn kind row old before new now = StopsWithin kind (row ∷ []) old before new now

-- the rows of these records were put, and behind any record the output is opened
pub record Writes {P : Type 0} {S : Type 0} (kind : StageKind S) (picks : P → Found → Option (List Value)) (old : Writer P) (before : S) (founds : List Found) (new : Writer P) (now : S) : Type 0 where
  pub puts : PutsRows kind (picked (picks old.picker) founds) old before new now
  pub opens : (founds ≡ []) ⊎ (new.opened ≡ true)

abbrev pub Halts : {P : Type 0} {S : Type 0} → StageKind S → (P → Found → Option (List Value)) → Writer P → S → List Found → Writer P → S → Type 0
Halts kind picks old before founds new now = StopsWithin kind (picked (picks old.picker) founds) old before new now
