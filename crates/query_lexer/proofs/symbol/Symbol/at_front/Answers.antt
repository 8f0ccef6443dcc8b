use Rattle.std.proofs.Common.{sym}
use Rattle.query_lexer.proofs.Signs.{sign_found}
use Rattle.query_lexer.proofs.symbol.Symbol.at_front.Goals as goal

pub returns : goal.returns
returns c = sign_found c.args.text.now _ (sym c.first_of.ensures)
