use Rattle.std.proofs.Common.{◌+◌, ◌*◌, length, map}
use Rattle.grammar.specs.declared.Class.TheVariants as class
use Rattle.grammar.specs.Rules.{a, behind, cond, conj, neg}
use Rattle.grammar.specs.Trees.{and_of, or_of}
use Rattle.grammar.proofs.Answering.{SoFar}
use Rattle.query_tree.specs.Tokens.{seen}
use Rattle.query_tree.specs.Views.{numbers_in}
use Rattle.query_parser.specs.Conditions.{condition_with, asked_between, Grown}
use Rattle.query_parser.proofs.conditions.Parser.+conditions.Given as goal

abbrev pub decreases-within : goal.decreases-within
decreases-within l = 16 * l.left

abbrev pub decreases-range : goal.decreases-range
decreases-range l = 16 * l.left + 1

abbrev pub decreases-tail : goal.decreases-tail
decreases-tail l = 16 * l.left + 2

abbrev pub decreases-test : goal.decreases-test
decreases-test l = 16 * l.left + 3

abbrev pub decreases-negated : goal.decreases-negated
decreases-negated l = 16 * l.left + 4

abbrev pub decreases-nested : goal.decreases-nested
decreases-nested l = 16 * l.left + 5

abbrev pub decreases-neg : goal.decreases-neg
decreases-neg l = 16 * l.left + 6

abbrev pub decreases-and_neg : goal.decreases-and_neg
decreases-and_neg l = 16 * l.left + 7

abbrev pub decreases-conj : goal.decreases-conj
decreases-conj l = 16 * l.left + 8

abbrev pub decreases-or_conj : goal.decreases-or_conj
decreases-or_conj l = 16 * l.left + 9

abbrev pub decreases-cond : goal.decreases-cond
decreases-cond l = 16 * l.left + 10

abbrev pub decreases-where_part : goal.decreases-where_part
decreases-where_part l = 16 * l.left + 11

abbrev pub decreases-subquery : goal.decreases-subquery
decreases-subquery l = 16 * l.left + 12

abbrev pub decreases-any_set : goal.decreases-any_set
decreases-any_set l = 16 * l.left + 13

abbrev pub decreases-set : goal.decreases-set
decreases-set l = 16 * l.left + 14

abbrev pub invariant-conj-loop-self : goal.invariant-conj-loop-self
invariant-conj-loop-self l = record {
  so_far : SoFar l.left (conj l.asks) (behind (a class.And) (neg l.asks)) (map seen l.fn.self.cursor.rest.now) (map seen l.self.cursor.rest.now) (λ vs. and_of (condition_with l.test (asked_between l.fn.self.subqueries.items l.self.subqueries.items)) vs);
  grown : Grown l.asks l.fn.self.subqueries.items l.self.subqueries.items (numbers_in l.test);
}

abbrev pub decreases-conj-loop-self : goal.decreases-conj-loop-self
decreases-conj-loop-self l = length l.self.cursor.rest.now

abbrev pub invariant-cond-loop-self : goal.invariant-cond-loop-self
invariant-cond-loop-self l = record {
  so_far : SoFar l.left (cond l.asks) (behind (a class.Or) (conj l.asks)) (map seen l.fn.self.cursor.rest.now) (map seen l.self.cursor.rest.now) (λ vs. or_of (condition_with l.test (asked_between l.fn.self.subqueries.items l.self.subqueries.items)) vs);
  grown : Grown l.asks l.fn.self.subqueries.items l.self.subqueries.items (numbers_in l.test);
}

abbrev pub decreases-cond-loop-self : goal.decreases-cond-loop-self
decreases-cond-loop-self l = length l.self.cursor.rest.now
