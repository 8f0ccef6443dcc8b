use Rattle.std.proofs.Common.{false, sym, ◌∙◌, ap}
use Rattle.grammar.specs.declared.Class.{Class}
use Rattle.grammar.specs.Classes.{is_a}
use Rattle.query_parser.proofs.Taking.{skip_reads, skip_passes, no_head, heads_is}
use Rattle.query_parser.proofs.cursor.Cursor.skip.Goals as goal

pub returns-in_default : goal.returns-in_default
returns-in_default c n = skip_passes n c.args.class _ (no_head (is_a c.args.class) _ c.in_default.ensures.cases)

pub returns-then-not-is : goal.returns-then-not-is
returns-then-not-is c n = skip_passes n c.args.class _ (heads_is (is_a c.args.class) _ _ c.in-Some.first.now false c.in-Some.ensures.cases.0 (ap (λ (k : Class). is_a c.args.class k) (sym c.class_of.ensures) ∙ sym c.if-not-is.ensures))

pub returns : goal.returns
returns c n = skip_reads n c.args.class _ _ c.in-Some.first.now c.in-Some.ensures.cases.0 (ap (λ (k : Class). is_a c.args.class k) (sym c.class_of.ensures) ∙ sym c.if-not-is.ensures)
