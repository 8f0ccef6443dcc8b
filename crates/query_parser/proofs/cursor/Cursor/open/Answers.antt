use Rattle.std.proofs.Common.{sym, ◌∙◌, ap, arith}
use Rattle.grammar.specs.declared.Class.{Class}
use Rattle.grammar.specs.Classes.{is_a}
use Rattle.query_parser.proofs.Taking.{take_reads, take_stops, take_ends, open_deep, any_nest}
use Rattle.query_parser.proofs.cursor.Cursor.open.Goals as goal

pub returns-in_default-clause-err : goal.returns-in_default-clause-err
returns-in_default-clause-err c k f is = take_ends c.args.left (is_a c.args.class) f _ (any_nest c.args.class f is) c.in_default.ensures.cases

pub returns-then-not-is-clause-err : goal.returns-then-not-is-clause-err
returns-then-not-is-clause-err c k f is = take_stops c.args.left (is_a c.args.class) f _ _ c.in-Some.first.now (any_nest c.args.class f is) c.in-Some.ensures.cases.0 (ap (λ (k : Class). is_a c.args.class k) (sym c.class_of.ensures) ∙ sym c.if-not-is.ensures)

pub returns-then-left-eq0-clause-err : goal.returns-then-left-eq0-clause-err
returns-then-left-eq0-clause-err c k f is = open_deep c.args.left (is_a c.args.class) f _ _ c.in-Some.first.now is c.if-left-eq0.true c.in-Some.ensures.cases.0 (ap (λ (k : Class). is_a c.args.class k) (sym c.class_of.ensures) ∙ sym c.if-not-is.ensures)

pub returns-clause-ok : goal.returns-clause-ok
returns-clause-ok c = record {
  reads = take_reads c.args.left (is_a c.args.class) _ _ c.in-Some.first.now c.in-Some.ensures.cases.0 (ap (λ (k : Class). is_a c.args.class k) (sym c.class_of.ensures) ∙ sym c.if-not-is.ensures);
  some = omega arith;
}
