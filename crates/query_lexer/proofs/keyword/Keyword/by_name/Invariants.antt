use Rattle.std.proofs.Common.{◌≡◌, ℕ, ◌<◌, get_or}
use Rattle.query_lexer.specs.Keywords.{IsKeyword}
use Rattle.query_lexer.specs.declared.keyword.TheConstants.{ALL}
use Rattle.query_lexer.specs.declared.keyword.Keyword.TheVariants as k
use Rattle.query_lexer.proofs.keyword.Keyword.by_name.Given as goal

abbrev pub invariant-loop-keyword : goal.invariant-loop-keyword
invariant-loop-keyword l = record {
  items : l.keyword-items ≡ ALL;
  passed : (i : ℕ) → i < l.keyword-index → ¬ (IsKeyword l.word (get_or ALL i k.Select));
}
