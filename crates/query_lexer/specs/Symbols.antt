-- The signs, and their texts.
use Rattle.std.specs.Prelude.{◌≡◌, ◌≤◌, ℕ, List, ◌++◌, codes, length}
use Rattle.query_lexer.specs.declared.symbol.Symbol.{Symbol}
use Rattle.query_lexer.specs.declared.symbol.Symbol.TheVariants as s

abbrev pub text_of : Symbol → List ℕ
text_of s.Open = codes "("
text_of s.Close = codes ")"
text_of s.Comma = codes ","
text_of s.Semicolon = codes ";"
text_of s.Star = codes "*"
text_of s.Equal = codes "="
text_of s.NotEqual = codes "<>"
text_of s.Less = codes "<"
text_of s.More = codes ">"
text_of s.LessEqual = codes "<="
text_of s.MoreEqual = codes ">="

-- the text begins with the sign
abbrev pub BeginsWith : List ℕ → Symbol → Type 0
BeginsWith text sign = (rest : List ℕ) × (text ≡ text_of sign ++ rest)

-- the text begins with no sign
abbrev pub HasNoSign : List ℕ → Type 0
HasNoSign text = (sign : Symbol) → ¬ (BeginsWith text sign)

-- the sign is the longest with which the text begins
abbrev pub HasSign : List ℕ → Symbol → Type 0
HasSign text sign = BeginsWith text sign × ((other : Symbol) → BeginsWith text other → length (text_of other) ≤ length (text_of sign))
