use Rattle.std.proofs.Common.{◌++◌, length, map}
use Rattle.grammar.specs.Forms.{Tok}
use Rattle.grammar.specs.Rules.{behind, values, is_separator, expr}
use Rattle.grammar.specs.Trees.{Set' as set}
use Rattle.grammar.proofs.Answering.{SoFar}
use Rattle.query_tree.specs.Tokens.{seen}
use Rattle.query_tree.specs.Views.{trees_of}
use Rattle.query_parser.proofs.cursor.Cursor.values.Given as goal

abbrev pub invariant-loop-self : goal.invariant-loop-self
invariant-loop-self l = SoFar l.left values (behind (Tok is_separator) expr) (map seen l.fn.self.rest.now) (map seen l.self.rest.now) (λ vs. set.values (trees_of l.items ++ vs))

abbrev pub decreases-loop-self : goal.decreases-loop-self
decreases-loop-self l = length l.self.rest.now
