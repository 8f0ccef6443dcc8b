use Rattle.std.proofs.Common.{sym, ◌∙◌, ap}
use Rattle.grammar.specs.declared.Class.{Class}
use Rattle.query_parser.specs.Sorts.{in_sort}
use Rattle.query_parser.proofs.Taking.{take_reads, tok_stops, tok_ends, any_sort}
use Rattle.query_parser.proofs.Stopping.{given_ok, given_err}
use Rattle.query_parser.proofs.cursor.Cursor.take_in.Goals as goal

pub returns-in_default-clause-exact : goal.returns-in_default-clause-exact
returns-in_default-clause-exact c n = given_err (tok_ends n (in_sort c.args.sort) _ (any_sort c.args.sort) c.in_default.ensures.cases)

pub returns-then-not-has-clause-exact : goal.returns-then-not-has-clause-exact
returns-then-not-has-clause-exact c n = given_err (tok_stops n (in_sort c.args.sort) _ _ c.in-Some.first.now (any_sort c.args.sort) c.in-Some.ensures.cases.0 (ap (λ (k : Class). in_sort c.args.sort k) (sym c.class_of.ensures) ∙ sym c.if-not-has.ensures))

pub returns-clause-exact : goal.returns-clause-exact
returns-clause-exact c n = given_ok (take_reads n (in_sort c.args.sort) _ _ c.in-Some.first.now c.in-Some.ensures.cases.0 (ap (λ (k : Class). in_sort c.args.sort k) (sym c.class_of.ensures) ∙ sym c.if-not-has.ensures))
