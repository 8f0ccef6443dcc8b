-- What stands at a place of a text, by its first byte.
use Rattle.std.specs.Prelude.{◌≡◌, ℕ, zero, suc, ◌+◌, Bool, true, false, ◌&&◌, ◌||◌, ◌==◌, if◌then◌else◌, nat_eq, List, [], ◌∷◌, ◌++◌, length, take, drop, map, codes, take_while, position, Option, Some, None, MatchOption}
use Rattle.std.specs.Char.{to_ascii_lowercase}
use Rattle.std.specs.List.{starts_with, prefix_len}
use Rattle.memchr.specs.Find.{is_byte}
use Rattle.query_lexer.specs.Bytes.{is_blank, is_letter, is_digit, is_word_byte, is_name_byte}
use Rattle.query_lexer.specs.Numbers.{number_of, six_of, is_signed, sign_length, whole_of, decimals_of, signed_by, is_outside}
use Rattle.query_lexer.specs.Keywords.{IsKeyword, IsNoKeyword}
use Rattle.query_lexer.specs.Symbols.{text_of, HasSign, HasNoSign}
use Rattle.query_lexer.specs.declared.token.TokenKind.{TokenKind}
use Rattle.query_lexer.specs.declared.token.TokenKind.TheVariants as k
use Rattle.query_lexer.specs.declared.piece.Piece.{Piece}
use Rattle.query_lexer.specs.declared.piece.Piece.TheVariants as p
use Rattle.query_lexer.specs.declared.piece.Problem.TheVariants as problem
use Rattle.query_lexer.specs.declared.piece.Start.{Start}
use Rattle.query_lexer.specs.declared.piece.Start.TheVariants as s

-- What begins with a byte: a blank is passed over, a quote (39) begins a string; where a name may come, a
-- name's byte begins one, and elsewhere a letter begins a word, a digit or `-` (45) a number, and `[` (91)
-- a word in brackets; all else is a sign or a bad character.
abbrev pub start_of : Bool → ℕ → Start
start_of names b =
    if is_blank b then s.Blank
    else if b == 39 then s.Quote
    else if names && is_name_byte b then s.Name
    else if is_letter b then s.Letter
    else if is_digit b || b == 45 then s.Number
    else if b == 91 then s.Bracket
    else s.Sign

-- the longest front of the bytes of names
abbrev pub name_at : List ℕ → Piece
name_at all = p.Token (k.Name (take_while is_name_byte all)) (prefix_len is_name_byte all)

-- a text as it stands between a string's quotes: each quote (39) twice
abbrev pub doubled : List ℕ → List ℕ
doubled [] = []
doubled (b ∷ bs) = if b == 39 then 39 ∷ 39 ∷ doubled bs else b ∷ doubled bs

-- whether a quote comes first
abbrev pub is_quote_first : List ℕ → Bool
is_quote_first [] = false
is_quote_first (b ∷ bs) = b == 39

-- the text begins with a string that stands for this text and has this many bytes
abbrev pub IsString : List ℕ → List ℕ → ℕ → Type 0
IsString all text size = (rest : List ℕ) × (all ≡ 39 ∷ doubled text ++ 39 ∷ rest) × (is_quote_first rest ≡ false) × (size ≡ length (doubled text) + 2)

-- the text begins with no string
abbrev pub IsNoString : List ℕ → Type 0
IsNoString all = (text : List ℕ) (size : ℕ) → ¬ (IsString all text size)

-- a string, which is a name where one may come; or a string without an end
abbrev pub IsStringAt : Bool → List ℕ → Piece → Type 0
IsStringAt true all (p.Token (k.Name text) size) = IsString all text size
IsStringAt false all (p.Token (k.Str text) size) = IsString all text size
IsStringAt names all (p.Bad problem.OpenString) = IsNoString all
IsStringAt names all _ = ⊥

-- whether a text begins with a name, whatever its case
abbrev pub begins_as : List ℕ → List ℕ → Bool
begins_as name all = starts_with nat_eq (map to_ascii_lowercase all) name

-- how many bytes the field has that the text begins with, which is a word with parentheses
abbrev pub field_length : List ℕ → Option ℕ
field_length all =
    if begins_as (codes "cs(user-agent)") all then Some 14
    else if begins_as (codes "cs(referer)") all then Some 11
    else if begins_as (codes "cs(cookie)") all then Some 10
    else None

-- a word's kind: a keyword or none
abbrev pub IsWordKind : List ℕ → TokenKind → Type 0
IsWordKind word (k.Keyword keyword) = IsKeyword word keyword
IsWordKind word (k.Word text) = (text ≡ word) × IsNoKeyword word
IsWordKind word _ = ⊥

-- a field, else the longest front of a word's bytes
abbrev pub IsWordAt : List ℕ → Piece → Type 0
IsWordAt all (p.Token kind size) = MatchOption (field_length all)
    (IsWordKind (take_while is_word_byte all) kind × (size ≡ prefix_len is_word_byte all))
    (λ n. (kind ≡ k.Word (take n all)) × (size ≡ n))
IsWordAt all _ = ⊥

-- a number's token, unless the number is outside the whole numbers of 64 bits
abbrev pub in_range : Bool → ℕ → Piece → Piece
in_range signed magnitude piece = if is_outside signed magnitude then p.Bad problem.NumberTooLarge else piece

-- a number without a point
abbrev pub integer_by : Bool → ℕ → List ℕ → Piece
integer_by signed sign whole = in_range signed (number_of whole)
    (p.Token (k.Integer (signed_by signed (number_of whole)) signed) (sign + length whole))

-- a number with a point, in millionths
abbrev pub real_by : Bool → ℕ → List ℕ → List ℕ → Piece
real_by signed sign whole decimals = in_range signed (number_of (whole ++ six_of decimals))
    (p.Token (k.Real (record { millionths = signed_by signed (number_of (whole ++ six_of decimals)) })) (sign + length whole + 1 + length decimals))

-- a number of a sign's length, a whole part and decimals; without a whole part it is none
abbrev pub number_by : Bool → ℕ → List ℕ → List ℕ → Piece
number_by signed sign [] decimals = p.Bad problem.BadCharacter
number_by signed sign (d ∷ ds) [] = integer_by signed sign (d ∷ ds)
number_by signed sign (d ∷ ds) (e ∷ es) = real_by signed sign (d ∷ ds) (e ∷ es)

-- the number in front
abbrev pub number_at : List ℕ → Piece
number_at all = number_by (is_signed all) (sign_length all) (whole_of all) (decimals_of all)

-- what is behind a bracket, up to the place of the bracket that closes it: at least one byte
abbrev pub bracket_by : List ℕ → Option ℕ → Piece
bracket_by behind None = p.Bad problem.OpenBracket
bracket_by behind (Some zero) = p.Bad problem.BadCharacter
bracket_by behind (Some (suc n)) = p.Token (k.Word (take (suc n) behind)) (suc n + 2)

-- the word in brackets in front, which ends before the first `]` (93)
abbrev pub bracket_at : List ℕ → Piece
bracket_at all = bracket_by (drop 1 all) (position (is_byte 93) (drop 1 all))

-- the longest sign, or none
abbrev pub IsSignAt : List ℕ → Piece → Type 0
IsSignAt all (p.Token (k.Symbol sign) size) = HasSign all sign × (size ≡ length (text_of sign))
IsSignAt all (p.Bad problem.BadCharacter) = HasNoSign all
IsSignAt all _ = ⊥

-- what stands in front, read in this way
abbrev pub StandsBy : Start → Bool → List ℕ → Piece → Type 0
StandsBy s.Blank names all piece = piece ≡ p.Blank
StandsBy s.Quote names all piece = IsStringAt names all piece
StandsBy s.Name names all piece = piece ≡ name_at all
StandsBy s.Letter names all piece = IsWordAt all piece
StandsBy s.Number names all piece = piece ≡ number_at all
StandsBy s.Bracket names all piece = piece ≡ bracket_at all
StandsBy s.Sign names all piece = IsSignAt all piece

-- what stands at the front of a text, where names may come or not
abbrev pub Stands : Bool → List ℕ → Piece → Type 0
Stands names [] piece = ⊥
Stands names (b ∷ bs) piece = StandsBy (start_of names b) names (b ∷ bs) piece
