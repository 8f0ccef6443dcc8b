use Rattle.std.proofs.Common.{sym, ◌∙◌, ap}
use Rattle.grammar.specs.declared.Class.{Class}
use Rattle.grammar.specs.Classes.{is_a}
use Rattle.query_parser.proofs.Taking.{take_reads, tok_stops, tok_ends}
use Rattle.query_parser.proofs.Stopping.{given_ok, given_err}
use Rattle.grammar.proofs.Classes.{some_class}
use Rattle.query_parser.proofs.cursor.Cursor.take.Goals as goal

pub returns-in_default-clause-exact : goal.returns-in_default-clause-exact
returns-in_default-clause-exact c n = given_err (tok_ends n (is_a c.args.class) _ (some_class c.args.class) c.in_default.ensures.cases)

pub returns-then-not-is-clause-exact : goal.returns-then-not-is-clause-exact
returns-then-not-is-clause-exact c n = given_err (tok_stops n (is_a c.args.class) _ _ c.in-Some.first.now (some_class c.args.class) c.in-Some.ensures.cases.0 (ap (λ (k : Class). is_a c.args.class k) (sym c.class_of.ensures) ∙ sym c.if-not-is.ensures))

pub returns-clause-exact : goal.returns-clause-exact
returns-clause-exact c n = given_ok (take_reads n (is_a c.args.class) _ _ c.in-Some.first.now c.in-Some.ensures.cases.0 (ap (λ (k : Class). is_a c.args.class k) (sym c.class_of.ensures) ∙ sym c.if-not-is.ensures))
