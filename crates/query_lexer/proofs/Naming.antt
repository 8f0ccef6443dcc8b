-- A name is one keyword's at most.
use Rattle.std.specs.Char.{to_ascii_lowercase}
use Rattle.std.specs.Cmp.Lexicographic.{pointwise}
use Rattle.std.proofs.Common.{◌≡◌, ℕ, nat_eq, List, map, find, Option, Some, unwrap_or, refl, sym, ◌∙◌, ap}
use Rattle.query_lexer.specs.Keywords.{name_of, IsKeyword}
use Rattle.query_lexer.specs.declared.keyword.TheConstants.{ALL}
use Rattle.query_lexer.specs.declared.keyword.Keyword.{Keyword}
use Rattle.query_lexer.specs.declared.keyword.Keyword.TheVariants as k

-- the keyword of a name in small letters
abbrev pub keyword_of : List ℕ → Option Keyword
keyword_of small = find (λ keyword. pointwise nat_eq small (map to_ascii_lowercase (name_of keyword))) ALL

named : (keyword : Keyword) → keyword_of (map to_ascii_lowercase (name_of keyword)) ≡ Some keyword
named k.Select = refl
named k.Top = refl
named k.Distinct = refl
named k.All = refl
named k.Using = refl
named k.As = refl
named k.Into = refl
named k.From = refl
named k.Where = refl
named k.Group = refl
named k.By = refl
named k.With = refl
named k.Rollup = refl
named k.Having = refl
named k.Order = refl
named k.Asc = refl
named k.Desc = refl
named k.And = refl
named k.Or = refl
named k.Not = refl
named k.Like = refl
named k.Between = refl
named k.In = refl
named k.Is = refl
named k.Null = refl
named k.Case = refl
named k.When = refl
named k.Then = refl
named k.Else = refl
named k.End = refl

pub keyword_once : (word : List ℕ) (one two : Keyword) → IsKeyword word one → IsKeyword word two → one ≡ two
keyword_once word one two first second =
    ap (λ (o : Option Keyword). unwrap_or o one) (sym (named one) ∙ ap (λ (x : List ℕ). keyword_of x) (sym first ∙ second) ∙ named two)
