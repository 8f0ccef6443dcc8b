-- How many values the rows have that are picked under sampled columns.
use Rattle.std.specs.Prelude.{List, length, Option}
use Rattle.lp_time.specs.declared.piece.Piece.{Piece}
use Rattle.query_types.specs.Terms.{Term}
use Rattle.query_types.specs.Conditions.{Filter}
use Rattle.row_engine.specs.Rows.{keeps}
use Rattle.column_kinds.specs.declared.judging.Judged.{Judged}
use Rattle.row_steps.specs.Grouped.{HasWidth}
use Rattle.row_steps.specs.Widths.{kept_width}
use Rattle.sampled_table.specs.Picks.{row_of, sampled_picks}

-- a value for each item
pub sampled_width : (pattern : List Piece) (told : Judged) (items : List Term) (condition : Option Filter) → HasWidth (sampled_picks pattern told items condition) (length items)
sampled_width pattern told items condition = λ found row e. kept_width (keeps condition (row_of pattern told found)) (row_of pattern told found) items row e
