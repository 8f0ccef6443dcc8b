-- A text and its tokens.
use Rattle.std.specs.Prelude.{◌≡◌, ◌≢◌, ℕ, ◌+◌, ◌≤◌, ◌<◌, Bool, true, false, List, [], ◌∷◌, length, drop, slice_index}
use Rattle.query_lexer.specs.Bytes.{is_blank}
use Rattle.query_lexer.specs.Standing.{Stands}
use Rattle.query_lexer.specs.declared.keyword.Keyword.{Keyword}
use Rattle.query_lexer.specs.declared.keyword.Keyword.TheVariants as w
use Rattle.query_lexer.specs.declared.symbol.Symbol.{Symbol}
use Rattle.query_lexer.specs.declared.symbol.Symbol.TheVariants as s
use Rattle.query_lexer.specs.declared.token.Token.{Token}
use Rattle.query_lexer.specs.declared.token.TokenKind.{TokenKind}
use Rattle.query_lexer.specs.declared.token.TokenKind.TheVariants as k
use Rattle.query_lexer.specs.declared.piece.Piece.TheVariants as p
use Rattle.query_lexer.specs.declared.piece.Problem.{Problem}
use Rattle.query_lexer.specs.declared.piece.Problem.TheVariants as problem
use Rattle.query_lexer.specs.declared.piece.Mode.{Mode}
use Rattle.query_lexer.specs.declared.piece.Mode.TheVariants as m
use Rattle.query_lexer.specs.declared.fault.LexFault.{LexFault}
use Rattle.query_lexer.specs.declared.fault.LexFault.TheVariants as fault

-- whether a name may come
abbrev pub names_come : Mode → Bool
names_come m.Ordinary = false
names_come m.BehindInto = true
names_come m.BehindFrom = true
names_come m.BehindName = false

abbrev pub after_keyword : Keyword → Mode
after_keyword w.Into = m.BehindInto
after_keyword w.From = m.BehindFrom
after_keyword _ = m.Ordinary

abbrev pub after_name : Mode → Mode
after_name m.BehindFrom = m.BehindName
after_name _ = m.Ordinary

abbrev pub after_symbol : Mode → Symbol → Mode
after_symbol m.BehindName s.Comma = m.BehindFrom
after_symbol _ _ = m.Ordinary

-- one name comes behind INTO, and names parted by commas behind FROM
abbrev pub after : Mode → TokenKind → Mode
after mode (k.Keyword keyword) = after_keyword keyword
after mode (k.Name text) = after_name mode
after mode (k.Symbol sign) = after_symbol mode sign
after mode (k.Word text) = m.Ordinary
after mode (k.Str text) = m.Ordinary
after mode (k.Integer value signed) = m.Ordinary
after mode (k.Real number) = m.Ordinary

-- the bytes from one place to another are blanks
abbrev pub IsBlankBetween : List ℕ → ℕ → ℕ → Type 0
IsBlankBetween text from to = (from ≤ to) × (to ≤ length text) × ((n : ℕ) → from ≤ n → n < to → is_blank (slice_index text n) ≡ true)

-- from one place to another the text is these tokens, with blanks before, between and behind them
abbrev pub Reads : List ℕ → Mode → ℕ → List Token → Mode → ℕ → Type 0
Reads text mode from [] last to = (mode ≡ last) × IsBlankBetween text from to
Reads text mode from (t ∷ ts) last to = (size : ℕ) × IsBlankBetween text from t.at
    × Stands (names_come mode) (drop t.at text) (p.Token t.kind size)
    × Reads text (after mode t.kind) (t.at + size) ts last to

-- the text is these tokens
abbrev pub IsLexed : List ℕ → List Token → Type 0
IsLexed text tokens = (last : Mode) × Reads text m.Ordinary 0 tokens last (length text)

-- up to a place the text is some tokens, and a problem stands there
abbrev pub IsBad : List ℕ → Problem → ℕ → Type 0
IsBad text problem at = (tokens : List Token) × (last : Mode) × Reads text m.Ordinary 0 tokens last at
    × Stands (names_come last) (drop at text) (p.Bad problem)

-- the text is no other tokens
abbrev pub IsOnly : List ℕ → List Token → Type 0
IsOnly text tokens = (others : List Token) → IsLexed text others → others ≡ tokens

-- the text's fault; any text may lack memory
abbrev pub IsFault : List ℕ → LexFault → Type 0
IsFault text (fault.BadCharacter at) = IsBad text problem.BadCharacter at
IsFault text (fault.OpenString at) = IsBad text problem.OpenString at
IsFault text (fault.OpenBracket at) = IsBad text problem.OpenBracket at
IsFault text (fault.NumberTooLarge at) = IsBad text problem.NumberTooLarge at
IsFault text fault.Memory = Unit {0}

-- a problem at a place, as a fault
abbrev pub fault_of : Problem → ℕ → LexFault
fault_of problem.BadCharacter at = fault.BadCharacter at
fault_of problem.OpenString at = fault.OpenString at
fault_of problem.OpenBracket at = fault.OpenBracket at
fault_of problem.NumberTooLarge at = fault.NumberTooLarge at

-- where there was memory, the text is no tokens, and has no other fault
abbrev pub HasNone : List ℕ → LexFault → Type 0
HasNone text given = given ≢ fault.Memory
    → ((tokens : List Token) → ¬ (IsLexed text tokens)) × ((other : LexFault) → other ≢ fault.Memory → IsFault text other → other ≡ given)
