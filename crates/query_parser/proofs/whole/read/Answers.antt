use Rattle.std.proofs.Common.{List, subst}
use Rattle.grammar.specs.Rules.{query}
use Rattle.query_lexer.specs.declared.token.Token.{Token}
use Rattle.query_tree.specs.Views.{query_of}
use Rattle.query_parser.specs.Answers.{Gives}
use Rattle.query_parser.proofs.whole.read.Goals as goal

pub returns-clause-exact : goal.returns-clause-exact
returns-clause-exact c =
    subst (λ (l : List Token). Gives 64 query l c.query-answer.new.self.cursor.rest.now query_of c.query-answer.result) c.as_slice.ensures c.query-answer.ensures.exact
