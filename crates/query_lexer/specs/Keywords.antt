-- The keywords, and their names.
use Rattle.std.specs.Prelude.{ℕ, ◌≡◌, List, map, codes}
use Rattle.std.specs.Char.{to_ascii_lowercase}
use Rattle.query_lexer.specs.declared.keyword.Keyword.{Keyword}
use Rattle.query_lexer.specs.declared.keyword.Keyword.TheVariants as k

abbrev pub name_of : Keyword → List ℕ
name_of k.Select = codes "SELECT"
name_of k.Top = codes "TOP"
name_of k.Distinct = codes "DISTINCT"
name_of k.All = codes "ALL"
name_of k.Using = codes "USING"
name_of k.As = codes "AS"
name_of k.Into = codes "INTO"
name_of k.From = codes "FROM"
name_of k.Where = codes "WHERE"
name_of k.Group = codes "GROUP"
name_of k.By = codes "BY"
name_of k.With = codes "WITH"
name_of k.Rollup = codes "ROLLUP"
name_of k.Having = codes "HAVING"
name_of k.Order = codes "ORDER"
name_of k.Asc = codes "ASC"
name_of k.Desc = codes "DESC"
name_of k.And = codes "AND"
name_of k.Or = codes "OR"
name_of k.Not = codes "NOT"
name_of k.Like = codes "LIKE"
name_of k.Between = codes "BETWEEN"
name_of k.In = codes "IN"
name_of k.Is = codes "IS"
name_of k.Null = codes "NULL"
name_of k.Case = codes "CASE"
name_of k.When = codes "WHEN"
name_of k.Then = codes "THEN"
name_of k.Else = codes "ELSE"
name_of k.End = codes "END"

-- the word is the keyword but for case
abbrev pub IsKeyword : List ℕ → Keyword → Type 0
IsKeyword word keyword = map to_ascii_lowercase word ≡ map to_ascii_lowercase (name_of keyword)

-- the word is no keyword
abbrev pub IsNoKeyword : List ℕ → Type 0
IsNoKeyword word = (keyword : Keyword) → ¬ (IsKeyword word keyword)
