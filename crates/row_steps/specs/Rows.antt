-- Rows that come from groups, on their way to outputs.
use Rattle.std.specs.Prelude.{◌≡◌, ℕ, Bool, List, ◌++◌}
use Rattle.lp_values.specs.declared.value.Value.{Value}
use Rattle.lp_values.specs.declared.group.AggKind.{AggKind}
use Rattle.group_rollup.specs.Groups.{Record, grouped}
use Rattle.group_rollup.specs.Tables.{Table, Holds}
use Rattle.query_types.specs.declared.plans.Plan.{Plan}
use Rattle.text_output.specs.Output.{StageKind}
use Rattle.row_output.specs.FileRows.{OnRefused}
use Rattle.row_output.specs.Kept.{HasRows, asked_of}
use Rattle.row_output.specs.Rows.{IsRefused, Stops}
use Rattle.row_output.specs.declared.fault.OutputFault.{OutputFault}
use Rattle.row_output.specs.declared.kept.RowOutput.{RowOutput}
use Rattle.row_steps.specs.Grouped.{group_output}

abbrev pub Rows : Type 0
Rows = List (List Value)

-- these rows were put behind those before
pub record PutsRows {S : Type 0} (kind : StageKind S) (put : Rows) (old : RowOutput) (before : S) (new : RowOutput) (now : S) : Type 0 where
  pub has : (start : S) (rows : Rows) → HasRows kind old start rows before → HasRows kind new start (rows ++ put) now
  pub asked : asked_of new ≡ asked_of old

-- it stopped by this fault within these rows, or behind them
pub record StopsBy {S : Type 0} (kind : StageKind S) (put : Rows) (old : RowOutput) (before : S) (fault : OutputFault) (now : S) : Type 0 where
  pub stop : (start : S) (rows more : Rows) → HasRows kind old start rows before → Stops kind (asked_of old) start (rows ++ (put ++ more)) now
  pub refused : (start : S) (rows more : Rows) → HasRows kind old start rows before → OnRefused (IsRefused (asked_of old) (rows ++ (put ++ more))) fault

-- P of the output rows of the groups of a table, whatever records it stands for
abbrev pub OnGroups : Plan → Table → (Rows → Type 0) → Type 0
OnGroups plan table P = (width : ℕ) (kinds : List AggKind) (rollup : Bool) (records : List Record) → Holds width kinds rollup table records → P (group_output plan (grouped width kinds rollup records))
