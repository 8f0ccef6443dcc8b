use Rattle.query_lexer.proofs.Finding.{front_same}
use Rattle.query_lexer.proofs.words.begins_as.Goals as goal

pub returns-then-name-bytes : goal.returns-then-name-bytes
returns-then-name-bytes c = front_same c.args.name.now c.args.bytes.now _ c.requires c.eq_ignore_ascii_case.ensures.test.0 c.eq_ignore_ascii_case.ensures.test.1
