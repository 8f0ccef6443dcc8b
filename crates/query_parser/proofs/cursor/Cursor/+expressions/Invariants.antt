use Rattle.std.proofs.Common.{◌++◌, ◌+◌, ◌*◌, length, map}
use Rattle.grammar.specs.declared.Class.TheVariants as class
use Rattle.grammar.specs.Rules.{a, behind, expr, exprs, when, whens}
use Rattle.grammar.proofs.Answering.{SoFar}
use Rattle.query_tree.specs.Tokens.{seen}
use Rattle.query_tree.specs.Views.{trees_of, whens_of}
use Rattle.query_parser.proofs.cursor.Cursor.+expressions.Given as goal

abbrev pub decreases-arguments : goal.decreases-arguments
decreases-arguments l = 8 * l.left

abbrev pub decreases-count_arguments : goal.decreases-count_arguments
decreases-count_arguments l = 8 * l.left

abbrev pub decreases-plain_word : goal.decreases-plain_word
decreases-plain_word l = 8 * l.left + 1

abbrev pub decreases-counting_word : goal.decreases-counting_word
decreases-counting_word l = 8 * l.left + 1

abbrev pub decreases-case : goal.decreases-case
decreases-case l = 8 * l.left + 1

abbrev pub decreases-expr : goal.decreases-expr
decreases-expr l = 8 * l.left + 2

abbrev pub decreases-exprs : goal.decreases-exprs
decreases-exprs l = 8 * l.left + 3

abbrev pub decreases-when : goal.decreases-when
decreases-when l = 8 * l.left + 3

abbrev pub decreases-whens : goal.decreases-whens
decreases-whens l = 8 * l.left + 4

abbrev pub decreases-case_end : goal.decreases-case_end
decreases-case_end l = 8 * l.left + 3

abbrev pub invariant-exprs-loop-self : goal.invariant-exprs-loop-self
invariant-exprs-loop-self l = SoFar l.left exprs (behind (a class.Comma) expr) (map seen l.fn.self.rest.now) (map seen l.self.rest.now) (λ vs. trees_of l.items ++ vs)

abbrev pub decreases-exprs-loop-self : goal.decreases-exprs-loop-self
decreases-exprs-loop-self l = length l.self.rest.now

abbrev pub invariant-whens-loop-self : goal.invariant-whens-loop-self
invariant-whens-loop-self l = SoFar l.left whens when (map seen l.fn.self.rest.now) (map seen l.self.rest.now) (λ vs. whens_of l.items ++ vs)

abbrev pub decreases-whens-loop-self : goal.decreases-whens-loop-self
decreases-whens-loop-self l = length l.self.rest.now
