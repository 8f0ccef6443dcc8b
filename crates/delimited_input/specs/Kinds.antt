-- The kinds of columns, as the first rows tell.
use Rattle.std.specs.Prelude.{ℕ, ◌==◌, Bool, not, ◌||◌, List, [], length, map, take, is_some, if◌then◌else◌, slice_index_or}
use Rattle.std.specs.List.{filter, list_all, range_with_len}
use Rattle.lp_time.specs.Readings.{seconds_in}
use Rattle.lp_time.specs.declared.piece.Piece.{Piece}
use Rattle.lp_values.specs.Readings.{integer_in, real_in}
use Rattle.lp_values.specs.declared.kind.Kind.{Kind}
use Rattle.lp_values.specs.declared.kind.Kind.TheVariants.{Integer, Real, Text, Stamp, Any}

-- the texts of a row, of which an empty one is missing
abbrev pub Row : Type 0
Row = List (List ℕ)

unfoldable pub is_integer : List ℕ → Bool
is_integer text = is_some (integer_in text)

unfoldable pub is_number : List ℕ → Bool
is_number text = is_integer text || is_some (real_in text)

unfoldable pub is_time : List Piece → List ℕ → Bool
is_time pattern text = is_some (seconds_in pattern text)

-- the first rule that holds of each text
abbrev pub kind_by : List Piece → List (List ℕ) → Kind
kind_by pattern texts =
    if list_all is_integer texts then Integer
    else if list_all is_number texts then Real
    else if list_all (is_time pattern) texts then Stamp
    else Text

abbrev pub is_missing : List ℕ → Bool
is_missing text = length text == 0

abbrev pub filled_of : List (List ℕ) → List (List ℕ)
filled_of texts = filter (λ text. not (is_missing text)) texts

-- the kind of a column with these texts; those that are missing tell nothing
abbrev pub kind_of_texts : List Piece → List (List ℕ) → Kind
kind_of_texts pattern texts = if length (filled_of texts) == 0 then Text else kind_by pattern (filled_of texts)

-- a row's text in a column
abbrev pub column_text : ℕ → Row → List ℕ
column_text column row = slice_index_or row column []

-- the texts of a column in the first rows
abbrev pub sample_of : ℕ → List Row → ℕ → List (List ℕ)
sample_of limit rows column = map (column_text column) (take limit rows)

-- the kind of a column, which is any where there is no row
abbrev pub column_kind : List Piece → ℕ → List Row → ℕ → Kind
column_kind pattern limit rows column = if length rows == 0 then Any else kind_of_texts pattern (sample_of limit rows column)

-- the kinds of so many columns, judged from at most so many of the first rows
unfoldable pub kinds_of : ℕ → List Piece → ℕ → List Row → List Kind
kinds_of columns pattern limit rows = map (column_kind pattern limit rows) (range_with_len 0 columns)
