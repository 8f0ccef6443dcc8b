-- What a query asks of the rows of its plan.
use Rattle.std.specs.Prelude.{ℕ, List, Option, option_map, unsigned_abs}
use Rattle.grammar.specs.Trees.{Query}
use Rattle.grammar.specs.Trees.{Query as query}
use Rattle.order_top.specs.Finish.{Finish}
use Rattle.query_types.specs.Planned.{Planned}
use Rattle.row_output.specs.Asked.{Asked, Files, RowsText, columns_for}

-- DISTINCT, ORDER BY and TOP, over the output columns of a plan
abbrev pub finish_of : Query → Planned → Finish
finish_of (query.query parts subqueries) plan = record { columns = plan.order; descending = parts.descending; distinct = parts.distinct; top = option_map unsigned_abs parts.top }

-- what becomes of them: to standard output or to files, as this text
abbrev pub asked_by : Option Files → RowsText → Query → Planned → Asked
asked_by files text q plan = record { files = files; text = text; columns = columns_for files plan.names; order = finish_of q plan }
