-- The table of a run, as its first log and its first records tell.
use Rattle.std.specs.Prelude.{ℕ, List, [], ◌∷◌, map, length, codes, slice_index_or, Option, Some, None, is_none}
use Rattle.lp_time.specs.declared.piece.Piece.{Piece}
use Rattle.lp_values.specs.declared.kind.Kind.{Kind}
use Rattle.lp_values.specs.declared.kind.Kind.TheVariants as K
use Rattle.log_reading.specs.Found.{Found}
use Rattle.query_types.specs.declared.table.NamedKind.{NamedKind}
use Rattle.query_types.specs.declared.table.TableColumns.{TableColumns}
use Rattle.delimited_input.specs.Kinds.{kinds_of}
use Rattle.column_kinds.specs.declared.judging.Judged.{Judged}
use Rattle.column_kinds.specs.declared.kept.FirstLog.{FirstLog}
use Rattle.column_kinds.specs.Fields.{indexed, texts_under}

-- the kinds of the first log's columns, judged from at most so many of the first records
abbrev pub kinds_under : ℕ → List Piece → FirstLog → List Found → List Kind
kinds_under limit pattern first founds = kinds_of (length first.columns) pattern limit (map (texts_under first) founds)

-- the columns of these names and kinds
abbrev pub named_kinds : List Kind → List (List ℕ) → List NamedKind
named_kinds kinds names = indexed (λ at name. record { name = name; kind = slice_index_or kinds at K.Any }) 0 names

-- no log has columns, or those of the first that has any
abbrev pub judged : ℕ → List Piece → Option FirstLog → List Found → Judged
judged limit pattern None founds = record { log = None; columns = [] }
judged limit pattern (Some first) founds = record { log = Some first.identity; columns = named_kinds (kinds_under limit pattern first founds) first.columns }

abbrev pub filename : NamedKind
filename = record { name = codes "Filename"; kind = K.Text }

abbrev pub row_number : NamedKind
row_number = record { name = codes "RowNumber"; kind = K.Integer }

-- the log, the record's number, and the columns; where no log has columns, any other name is one too
abbrev pub table_of : Judged → TableColumns
table_of told = record { columns = filename ∷ row_number ∷ told.columns; others = is_none told.log }
