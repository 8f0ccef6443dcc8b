-- The format of words: one row a word.
use Rattle.std.specs.Prelude.{ℕ, Bool, ◌||◌, ◌==◌, List, [], ◌∷◌, length, map, filter, nat_lt, Option, Some, None}
use Rattle.std.specs.List.{slice_split}
use Rattle.lp_model.specs.Reading.{Columns, Format, Reading, rows}

-- tab, VT, FF, CR, space
abbrev pub is_word_gap : ℕ → Bool
is_word_gap byte = byte == 9 || byte == 11 || byte == 12 || byte == 13 || byte == 32

-- what stands between such bytes, where it isn't empty
abbrev pub words_in : List ℕ → List (List ℕ)
words_in text = filter (λ word. nat_lt 0 (length word)) (slice_split is_word_gap text)

-- one row a word
abbrev pub word_reading : List ℕ → Option Columns → Reading
word_reading text columns = rows (map (λ word. Some word ∷ []) (words_in text))

abbrev pub text_words : Format
text_words = record { columns_after = λ texts. None; reading = word_reading }
