use Rattle.std.proofs.Common.{arith}
use Rattle.query_lexer.proofs.Boundaries.{behind_first}
use Rattle.query_lexer.proofs.words.bracket.Goals as goal

pub range_from-behind-requires : goal.range_from-behind-requires
range_from-behind-requires c _ = behind_first _ 91 c.utf8.rest c.requires (omega arith) (omega arith)
