-- What a grouped run over sampled columns is asked, and what it makes of its records.
use Rattle.std.specs.Prelude.{ℕ, ℤ, List, Result}
use Rattle.grammar.specs.Trees.{Query}
use Rattle.lp_time.specs.declared.piece.Piece.{Piece}
use Rattle.lp_values.specs.declared.value.Value.{Value}
use Rattle.log_reading.specs.Found.{Found}
use Rattle.query_types.specs.declared.fault.TypeFault.{TypeFault}
use Rattle.query_types.specs.Planned.{Planned}
use Rattle.group_planning.specs.Groups.{Grouped, group_plan_of}
use Rattle.group_meaning.specs.Rows.{rows_of_groups}
use Rattle.column_kinds.specs.declared.judging.Judged.{Judged}
use Rattle.column_kinds.specs.Judged.{table_of}
use Rattle.column_kinds.specs.Past.{Past}
use Rattle.column_kinds.specs.Past.{told_at as told_from}
use Rattle.row_output.specs.Asked.{Asked}
use Rattle.sampled_table.specs.Picks.{sampled_picks}

-- what a run is asked: from how many records kinds are judged, how times are read, the moment, the query, and, by what it asks of a group's row, what becomes of its rows
pub record GroupRules : Type 0 where
  pub limit : ℕ
  pub pattern : List Piece
  pub moment : ℤ
  pub query : Query
  pub asked : Planned → Asked

abbrev pub group_rules_of : ℕ → List Piece → ℤ → Query → (Planned → Asked) → GroupRules
group_rules_of limit pattern moment q asked = record { limit = limit; pattern = pattern; moment = moment; query = q; asked = asked }

-- the columns that the records tell
abbrev pub told_at : GroupRules → Past → Judged
told_at rules past = told_from rules.limit rules.pattern past

-- the plan by groups over the table of these columns, or its fault
abbrev pub plan_at : GroupRules → Past → Result Grouped TypeFault
plan_at rules past = group_plan_of (table_of (told_at rules past)) rules.moment rules.query

-- the output rows of the groups of records
abbrev pub rows_with : List Piece → Judged → Grouped → List Found → List (List Value)
rows_with pattern told plan founds = rows_of_groups plan (sampled_picks pattern told plan.rows.items plan.rows.condition) founds

abbrev pub rows_at : GroupRules → Past → Grouped → List (List Value)
rows_at rules past plan = rows_with rules.pattern (told_at rules past) plan past.founds
