use Rattle.std.proofs.Common.{◌++◌, length, map}
use Rattle.grammar.specs.declared.Class.TheVariants as class
use Rattle.grammar.specs.Rules.{a, behind, parted, item}
use Rattle.grammar.proofs.Answering.{SoFar}
use Rattle.query_tree.specs.Tokens.{seen}
use Rattle.query_tree.specs.Views.{items_of}
use Rattle.query_parser.proofs.cursor.Cursor.items.Given as goal

abbrev pub invariant-loop-self : goal.invariant-loop-self
invariant-loop-self l = SoFar l.left (parted (a class.Comma) item) (behind (a class.Comma) item) (map seen l.fn.self.rest.now) (map seen l.self.rest.now) (λ vs. items_of l.items ++ vs)

abbrev pub decreases-loop-self : goal.decreases-loop-self
decreases-loop-self l = length l.self.rest.now
