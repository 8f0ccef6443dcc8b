-- The fields of IIS logs.
use Rattle.std.specs.Prelude.{ℕ, List, [], ◌∷◌, map, codes, Result, Ok, Err, Option, option_map}
use Rattle.std.specs.List.{find}
use Rattle.lp_time.specs.Patterns.{pattern_in}
use Rattle.lp_time.specs.declared.piece.Piece.{Piece}
use Rattle.slot_reading.specs.Names.{is_same_name}
use Rattle.slot_reading.specs.declared.reading.SlotReading.{SlotReading}
use Rattle.slot_reading.specs.declared.reading.SlotReading.TheVariants.{Integer, Text, By}

-- the pattern that a text is
abbrev pub pieces_of : Result (List Piece) ℕ → List Piece
pieces_of (Ok pattern) = pattern
pieces_of (Err at) = []

abbrev pub pattern_of : List ℕ → List Piece
pattern_of text = pieces_of (pattern_in text)

-- a field, and how it is read
pub record IisField : Type 0 where
  pub name : List ℕ
  pub reading : SlotReading

abbrev pub text_field : List ℕ → IisField
text_field name = record { name = name; reading = Text }

abbrev pub number_field : List ℕ → IisField
number_field name = record { name = name; reading = Integer }

abbrev pub stamp_field : List ℕ → List ℕ → IisField
stamp_field name pattern = record { name = name; reading = By (pattern_of pattern) }

-- the fields that a log may have
abbrev pub logged_fields : List IisField
logged_fields =
    stamp_field (codes "date") (codes "yyyy-MM-dd")
    ∷ stamp_field (codes "time") (codes "hh:mm:ss")
    ∷ text_field (codes "c-ip")
    ∷ text_field (codes "cs-username")
    ∷ text_field (codes "s-sitename")
    ∷ text_field (codes "s-computername")
    ∷ text_field (codes "s-ip")
    ∷ number_field (codes "s-port")
    ∷ text_field (codes "cs-method")
    ∷ text_field (codes "cs-uri-stem")
    ∷ text_field (codes "cs-uri-query")
    ∷ number_field (codes "sc-status")
    ∷ number_field (codes "sc-substatus")
    ∷ number_field (codes "sc-win32-status")
    ∷ number_field (codes "sc-bytes")
    ∷ number_field (codes "cs-bytes")
    ∷ number_field (codes "time-taken")
    ∷ text_field (codes "cs-version")
    ∷ text_field (codes "cs-host")
    ∷ text_field (codes "cs(User-Agent)")
    ∷ text_field (codes "cs(Cookie)")
    ∷ text_field (codes "cs(Referer)")
    ∷ []

-- all fields of a row: the log and the line's number stand first
abbrev pub iis_fields : List IisField
iis_fields = text_field (codes "LogFilename") ∷ number_field (codes "LogRow") ∷ logged_fields

-- the names of the fields that a log may have
unfoldable pub logged_names : List (List ℕ)
logged_names = map (λ (field : IisField). field.name) logged_fields

-- how the field of a name is read, whatever the name's case
unfoldable pub column_reading : List ℕ → Option SlotReading
column_reading name = option_map (λ (field : IisField). field.reading) (find (λ (field : IisField). is_same_name name field.name) iis_fields)
