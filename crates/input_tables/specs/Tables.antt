-- The input formats that have a table: their lines, and their columns.
use Rattle.std.specs.Prelude.{ℕ, false, List, [], ◌∷◌, map, drop, codes}
use Rattle.lp_model.specs.Reading.{Format, text_lines}
use Rattle.line_input.specs.Words.{text_words}
use Rattle.input_tables.specs.declared.format.TableFormat.{TableFormat}
use Rattle.input_tables.specs.declared.format.TableFormat.TheVariants as T
use Rattle.query_types.specs.declared.table.NamedKind.{NamedKind}
use Rattle.query_types.specs.declared.table.TableColumns.{TableColumns}
use Rattle.slot_reading.specs.declared.reading.SlotReading.{SlotReading}
use Rattle.slot_reading.specs.declared.reading.SlotReading.TheVariants as R
use Rattle.slot_reading.specs.Slots.{kind_of}
use Rattle.ncsa_input.specs.Lines.{ncsa_lines}
use Rattle.ncsa_input.specs.Table.{NcsaField, ncsa_fields}
use Rattle.w3c_input.specs.Lines.{w3c_lines}
use Rattle.iis_fields.specs.Table.{IisField, logged_fields}

-- the lines of a format
abbrev pub lines_of : TableFormat → Format
lines_of T.IisW3c = w3c_lines
lines_of T.Ncsa = ncsa_lines
lines_of T.TextLine = text_lines
lines_of T.TextWord = text_words

-- the fields of an NCSA log behind the log's name and the number
abbrev pub ncsa_logged : List IisField
ncsa_logged = map (λ (field : NcsaField). record { name = field.name; reading = field.reading }) (drop 2 ncsa_fields)

-- the field of a text log behind the log's name and the number
abbrev pub text_fields : List IisField
text_fields = record { name = codes "Text"; reading = R.Text } ∷ []

-- the fields of a format behind the log's name and the number
abbrev pub fields_of : TableFormat → List IisField
fields_of T.IisW3c = logged_fields
fields_of T.Ncsa = ncsa_logged
fields_of T.TextLine = text_fields
fields_of T.TextWord = text_fields

-- what the number of a record is called
abbrev pub number_name : TableFormat → List ℕ
number_name T.IisW3c = codes "LogRow"
number_name T.Ncsa = codes "LogRow"
number_name T.TextLine = codes "Index"
number_name T.TextWord = codes "Index"

-- the column of a field
abbrev pub column_of : IisField → NamedKind
column_of field = record { name = field.name; kind = kind_of field.reading }

-- the columns of a format: the log, the record's number, and the fields
abbrev pub columns_of : TableFormat → List NamedKind
columns_of format = column_of (record { name = codes "LogFilename"; reading = R.Text }) ∷ column_of (record { name = number_name format; reading = R.Integer }) ∷ map column_of (fields_of format)

abbrev pub table_of : TableFormat → TableColumns
table_of format = record { columns = columns_of format; others = false }

abbrev pub reading_in : IisField → SlotReading
reading_in field = field.reading

-- how the fields of a format are read
abbrev pub readings_of : TableFormat → List SlotReading
readings_of format = map reading_in (fields_of format)
