use Rattle.std.proofs.Common.{ℕ, ◌++◌, length, map}
use Rattle.grammar.specs.declared.Class.TheVariants as class
use Rattle.grammar.specs.Rules.{a, behind, names, name}
use Rattle.grammar.proofs.Answering.{SoFar}
use Rattle.query_tree.specs.Tokens.{seen}
use Rattle.query_tree.specs.Views.{placed_all}
use Rattle.query_parser.proofs.cursor.Cursor.names.Given as goal

abbrev pub invariant-loop-self : goal.invariant-loop-self
invariant-loop-self l = (n : ℕ) → SoFar n names (behind (a class.Comma) name) (map seen l.fn.self.rest.now) (map seen l.self.rest.now) (λ vs. placed_all l.items ++ vs)

abbrev pub decreases-loop-self : goal.decreases-loop-self
decreases-loop-self l = length l.self.rest.now
