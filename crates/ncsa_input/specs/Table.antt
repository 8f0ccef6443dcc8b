-- The fields of NCSA logs.
use Rattle.std.specs.Prelude.{ℕ, List, [], ◌∷◌, codes, Option, option_map}
use Rattle.std.specs.List.{find}
use Rattle.slot_reading.specs.Names.{is_same_name}
use Rattle.slot_reading.specs.declared.reading.SlotReading.{SlotReading}
use Rattle.slot_reading.specs.declared.reading.SlotReading.TheVariants.{Integer, Text, Clf}

-- a field, and how it is read
pub record NcsaField : Type 0 where
  pub name : List ℕ
  pub reading : SlotReading

abbrev pub text_field : List ℕ → NcsaField
text_field name = record { name = name; reading = Text }

abbrev pub number_field : List ℕ → NcsaField
number_field name = record { name = name; reading = Integer }

abbrev pub time_field : List ℕ → NcsaField
time_field name = record { name = name; reading = Clf }

-- all fields of a row: the log and the line's number stand first
abbrev pub ncsa_fields : List NcsaField
ncsa_fields =
    text_field (codes "LogFilename")
    ∷ number_field (codes "LogRow")
    ∷ text_field (codes "RemoteHostName")
    ∷ text_field (codes "RemoteLogName")
    ∷ text_field (codes "UserName")
    ∷ time_field (codes "DateTime")
    ∷ text_field (codes "Request")
    ∷ number_field (codes "StatusCode")
    ∷ number_field (codes "BytesSent")
    ∷ text_field (codes "Referer")
    ∷ text_field (codes "User-Agent")
    ∷ text_field (codes "Cookie")
    ∷ []

-- how the field of a name is read, whatever the name's case
unfoldable pub field_reading : List ℕ → Option SlotReading
field_reading name = option_map (λ (field : NcsaField). field.reading) (find (λ (field : NcsaField). is_same_name name field.name) ncsa_fields)
