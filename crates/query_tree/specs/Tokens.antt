-- Tokens as the grammar sees them.
use Rattle.std.specs.Prelude.{ℕ, ℤ, pos, negsuc, Bool, true, false, List, [], ◌∷◌, map, codes, ◌==◌, ◌&&◌}
use Rattle.std.specs.Char.{to_ascii_lowercase}
use Rattle.grammar.specs.declared.Class.{Class}
use Rattle.grammar.specs.declared.Class.TheVariants as c
use Rattle.grammar.specs.Trees as model
use Rattle.query_lexer.specs.declared.keyword.Keyword.{Keyword}
use Rattle.query_lexer.specs.declared.keyword.Keyword.TheVariants as w
use Rattle.query_lexer.specs.declared.symbol.Symbol.{Symbol}
use Rattle.query_lexer.specs.declared.symbol.Symbol.TheVariants as s
use Rattle.query_lexer.specs.declared.token.TokenKind.{TokenKind}
use Rattle.query_lexer.specs.declared.token.TokenKind.TheVariants as t
use Rattle.query_lexer.specs.declared.token.Token.{Token}

abbrev pub class_of_keyword : Keyword → Class
class_of_keyword w.Select = c.Select
class_of_keyword w.Top = c.Top
class_of_keyword w.Distinct = c.Distinct
class_of_keyword w.All = c.All
class_of_keyword w.Using = c.Using
class_of_keyword w.As = c.As
class_of_keyword w.Into = c.Into
class_of_keyword w.From = c.From
class_of_keyword w.Where = c.Where
class_of_keyword w.Group = c.Group
class_of_keyword w.By = c.By
class_of_keyword w.With = c.With
class_of_keyword w.Rollup = c.Rollup
class_of_keyword w.Having = c.Having
class_of_keyword w.Order = c.Order
class_of_keyword w.Asc = c.Asc
class_of_keyword w.Desc = c.Desc
class_of_keyword w.And = c.And
class_of_keyword w.Or = c.Or
class_of_keyword w.Not = c.Not
class_of_keyword w.Like = c.Like
class_of_keyword w.Between = c.Between
class_of_keyword w.In = c.In
class_of_keyword w.Is = c.Is
class_of_keyword w.Null = c.Null
class_of_keyword w.Case = c.Case
class_of_keyword w.When = c.When
class_of_keyword w.Then = c.Then
class_of_keyword w.Else = c.Else
class_of_keyword w.End = c.End

abbrev pub class_of_symbol : Symbol → Class
class_of_symbol s.Open = c.Open
class_of_symbol s.Close = c.Close
class_of_symbol s.Comma = c.Comma
class_of_symbol s.Semicolon = c.Semicolon
class_of_symbol s.Star = c.Star
class_of_symbol s.Equal = c.Compares
class_of_symbol s.NotEqual = c.Compares
class_of_symbol s.Less = c.Compares
class_of_symbol s.More = c.Compares
class_of_symbol s.LessEqual = c.Compares
class_of_symbol s.MoreEqual = c.Compares

-- each sign of comparison has a number
abbrev pub number_of_symbol : Symbol → ℤ
number_of_symbol s.Open = pos 0
number_of_symbol s.Close = pos 0
number_of_symbol s.Comma = pos 0
number_of_symbol s.Semicolon = pos 0
number_of_symbol s.Star = pos 0
number_of_symbol s.Equal = pos 0
number_of_symbol s.NotEqual = pos 1
number_of_symbol s.Less = pos 2
number_of_symbol s.More = pos 3
number_of_symbol s.LessEqual = pos 4
number_of_symbol s.MoreEqual = pos 5

abbrev pub same_text : List ℕ → List ℕ → Bool
same_text [] [] = true
same_text [] (b ∷ bs) = false
same_text (a ∷ more) [] = false
same_text (a ∷ more) (b ∷ bs) = a == b && same_text more bs

-- whether two words are one, whatever their case
abbrev pub same_word : List ℕ → List ℕ → Bool
same_word a b = same_text (map to_ascii_lowercase a) (map to_ascii_lowercase b)

abbrev pub first_class : (count prop_count timestamp : Bool) → Class
first_class true prop_count timestamp = c.Count
first_class false true timestamp = c.PropCount
first_class false false true = c.Timestamp
first_class false false false = c.Word

unfoldable pub class_of_word : List ℕ → Class
class_of_word text = first_class (same_word text (codes "COUNT")) (same_word text (codes "PROPCOUNT")) (same_word text (codes "TIMESTAMP"))

-- an integer below 0 has a sign
abbrev pub class_of_integer : Bool → ℤ → Class
class_of_integer true value = c.Signed
class_of_integer false (pos n) = c.Unsigned
class_of_integer false (negsuc n) = c.Signed

abbrev pub class_of : TokenKind → Class
class_of (t.Word text) = class_of_word text
class_of (t.Keyword k) = class_of_keyword k
class_of (t.Str text) = c.Text
class_of (t.Integer value signed) = class_of_integer signed value
class_of (t.Real value) = c.Real
class_of (t.Name text) = c.Name
class_of (t.Symbol s) = class_of_symbol s

abbrev pub number_of : TokenKind → ℤ
number_of (t.Word text) = pos 0
number_of (t.Keyword k) = pos 0
number_of (t.Str text) = pos 0
number_of (t.Integer value signed) = value
number_of (t.Real value) = value.millionths
number_of (t.Name text) = pos 0
number_of (t.Symbol s) = number_of_symbol s

abbrev pub name_of : TokenKind → List ℕ
name_of (t.Word text) = text
name_of (t.Keyword k) = []
name_of (t.Str text) = text
name_of (t.Integer value signed) = []
name_of (t.Real value) = []
name_of (t.Name text) = text
name_of (t.Symbol s) = []

abbrev pub seen : Token → model.Token
seen t = record { at = t.at; class = class_of t.kind; number = number_of t.kind; name = name_of t.kind }
