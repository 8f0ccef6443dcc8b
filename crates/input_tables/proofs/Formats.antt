-- What a run over the logs of a format may rely on.
use Rattle.std.proofs.Common.{◌≡◌, ◌+◌, ◌≤◌, [], None, length, map, refl, arith}
use Rattle.std.proofs.lemmas.List.{length-map}
use Rattle.input_tables.specs.declared.format.TableFormat.{TableFormat}
use Rattle.input_tables.specs.declared.format.TableFormat.TheVariants as T
use Rattle.ncsa_input.specs.Lines.{ncsa_lines}
use Rattle.w3c_input.specs.Lines.{w3c_lines}
use Rattle.input_tables.specs.Tables.{lines_of, column_of, columns_of, fields_of, reading_in, readings_of}

-- no columns are in force before the first line
pub lines_start : (format : TableFormat) → (lines_of format).columns_after [] ≡ None
unfolding w3c_lines ncsa_lines
lines_start T.IisW3c = refl
lines_start T.Ncsa = refl
lines_start T.TextLine = refl
lines_start T.TextWord = refl

-- each field has its column, behind the two of the log's name and the record's number
pub readings_fit : (format : TableFormat) → length (readings_of format) + 2 ≤ length (columns_of format)
readings_fit format =
    let columns : length (map column_of (fields_of format)) ≡ length (fields_of format) = length-map (fields_of format) column_of in
    let readings : length (map reading_in (fields_of format)) ≡ length (fields_of format) = length-map (fields_of format) reading_in in
    omega arith
