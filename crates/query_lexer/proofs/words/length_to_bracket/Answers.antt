use Rattle.std.proofs.Common.{ℕ, List, ap, ◌∙◌}
use Rattle.std.specs.List.{position}
use Rattle.memchr.specs.Find.{is_byte}
use Rattle.query_lexer.proofs.Finding.{position_is}
use Rattle.query_lexer.proofs.words.length_to_bracket.Goals as goal

pub returns-clause-first : goal.returns-clause-first
returns-clause-first c = position_is 93 _ _ c.memchr.ensures ∙ ap (λ (x : List ℕ). position (is_byte 93) x) c.as_bytes.ensures.value
