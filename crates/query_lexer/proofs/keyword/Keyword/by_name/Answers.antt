use Rattle.std.proofs.Common.{◌≡◌, ℕ, ◌<◌, get_or, refl, lit<, arith, subst, sym}
use Rattle.query_lexer.specs.Keywords.{IsKeyword}
use Rattle.query_lexer.specs.declared.keyword.TheConstants.{ALL}
use Rattle.query_lexer.specs.declared.keyword.Keyword.{Keyword}
use Rattle.query_lexer.specs.declared.keyword.Keyword.TheVariants as k
use Rattle.query_lexer.proofs.keyword.Keyword.by_name.Goals as goal

-- each keyword stands in the table
place : (keyword : Keyword) → (i : ℕ) × (i < 30) × (get_or ALL i k.Select ≡ keyword)
place k.Select = (0, lit< tt, refl)
place k.Top = (1, lit< tt, refl)
place k.Distinct = (2, lit< tt, refl)
place k.All = (3, lit< tt, refl)
place k.Using = (4, lit< tt, refl)
place k.As = (5, lit< tt, refl)
place k.Into = (6, lit< tt, refl)
place k.From = (7, lit< tt, refl)
place k.Where = (8, lit< tt, refl)
place k.Group = (9, lit< tt, refl)
place k.By = (10, lit< tt, refl)
place k.With = (11, lit< tt, refl)
place k.Rollup = (12, lit< tt, refl)
place k.Having = (13, lit< tt, refl)
place k.Order = (14, lit< tt, refl)
place k.Asc = (15, lit< tt, refl)
place k.Desc = (16, lit< tt, refl)
place k.And = (17, lit< tt, refl)
place k.Or = (18, lit< tt, refl)
place k.Not = (19, lit< tt, refl)
place k.Like = (20, lit< tt, refl)
place k.Between = (21, lit< tt, refl)
place k.In = (22, lit< tt, refl)
place k.Is = (23, lit< tt, refl)
place k.Null = (24, lit< tt, refl)
place k.Case = (25, lit< tt, refl)
place k.When = (26, lit< tt, refl)
place k.Then = (27, lit< tt, refl)
place k.Else = (28, lit< tt, refl)
place k.End = (29, lit< tt, refl)

pub returns : goal.returns
returns c = λ keyword named.
    let at = place keyword in
    let within : at.0 < c.loop-keyword.keyword-index = omega arith in
    c.loop-keyword.invariant.passed at.0 within (subst (λ (g : Keyword). IsKeyword c.args.word.now g) (sym at.2) named)
