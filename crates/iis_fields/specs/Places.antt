-- The place of a name among the fields that a log may have, and how the field at a place is read.
use Rattle.std.specs.Prelude.{ℕ, List, slice_get, Option, option_map}
use Rattle.std.specs.Result.{result_ok}
use Rattle.std.specs.List.{position}
use Rattle.lp_time.specs.Patterns.{pattern_in}
use Rattle.slot_reading.specs.Names.{is_same_name}
use Rattle.slot_reading.specs.declared.reading.SlotReading.{SlotReading}
use Rattle.slot_reading.specs.declared.reading.SlotReading.TheVariants.{By}
use Rattle.iis_fields.specs.Table.{IisField, iis_fields, logged_names}

-- the place of the first field of this name, whatever the name's case
unfoldable pub place_of : List ℕ → Option ℕ
place_of name = position (is_same_name name) logged_names

-- by a pattern
abbrev pub reading_by : List ℕ → Option SlotReading
reading_by text = option_map By (result_ok (pattern_in text))

-- how the field at a place of the whole row is read
unfoldable pub reading_at : ℕ → Option SlotReading
reading_at place = option_map (λ (field : IisField). field.reading) (slice_get iis_fields place)
