-- The fields that the formats' tables list.
use Rattle.std.specs.Prelude.{codes}
use Rattle.slot_reading.specs.declared.reading.SlotReading.{SlotReading}
use Rattle.slot_reading.specs.declared.reading.SlotReading.TheVariants as R
use Rattle.iis_fields.specs.Table.{IisField, pattern_of}
use Rattle.input_tables.specs.declared.field.How.{How}
use Rattle.input_tables.specs.declared.field.How.TheVariants as H
use Rattle.input_tables.specs.declared.field.Known.{Known}

-- how a field is read
abbrev pub read_how : How → SlotReading
read_how H.Integer = R.Integer
read_how H.Text = R.Text
read_how H.Day = R.By (pattern_of (codes "yyyy-MM-dd"))
read_how H.Clock = R.By (pattern_of (codes "hh:mm:ss"))
read_how H.Clf = R.Clf

abbrev pub known : Known → IisField
known field = record { name = field.name.now; reading = read_how field.how }
