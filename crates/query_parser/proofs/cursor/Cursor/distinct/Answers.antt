use Rattle.std.proofs.Common.{refl, sym}
use Rattle.std.proofs.lemmas.Result.{err_from_is_err_and}
use Rattle.grammar.specs.declared.Class.TheVariants as class
use Rattle.grammar.specs.Classes.{is_a}
use Rattle.query_parser.proofs.Steps.{reads_neither}
use Rattle.grammar.proofs.Answering.{reads_map, reads_left, reads_right, reads_present}
use Rattle.query_parser.proofs.Stopping.{stop_map, stop_left, stop_right, stop_present, given_ok, given_err}
use Rattle.query_parser.proofs.cursor.Cursor.distinct.Goals as goal

pub returns-in_err-_distinct : goal.returns-in_err-_distinct
returns-in_err-_distinct c n =
    let p = err_from_is_err_and c.from_residual.result c.from_residual.ensures.1 in
    rw (p.1, p.2) (given_err (stop_map (stop_present (is_a class.Distinct) refl (sym c.if-next_is.ensures) (stop_left (is_a class.Distinct) refl refl (sym c.if-next_is.ensures) (stop_map (c.in_err-_distinct.ensures.exact n).is)))))

pub returns-then-next_is : goal.returns-then-next_is
returns-then-next_is c n =
    given_ok (reads_map (reads_present (is_a class.Distinct) refl (sym c.if-next_is.ensures) (reads_left (is_a class.Distinct) refl refl (sym c.if-next_is.ensures) (reads_map (c.in_ok-_distinct.ensures.exact n).is))))

pub returns-in_err-_all : goal.returns-in_err-_all
returns-in_err-_all c n =
    let p = err_from_is_err_and c.from_residual-in_err-_all.result c.from_residual-in_err-_all.ensures.1 in
    rw (p.1, p.2) (given_err (stop_map (stop_present (is_a class.All) refl (sym c.if-next_is-2.ensures) (stop_right (is_a class.Distinct) refl refl (sym c.if-next_is.ensures) (stop_map (c.in_err-_all.ensures.exact n).is)))))

pub returns-then-next_is-2 : goal.returns-then-next_is-2
returns-then-next_is-2 c n =
    given_ok (reads_map (reads_present (is_a class.All) refl (sym c.if-next_is-2.ensures) (reads_right (is_a class.Distinct) refl refl (sym c.if-next_is.ensures) (reads_map (c.in_ok-_all.ensures.exact n).is))))

pub returns : goal.returns
returns c n =
    given_ok (reads_map (reads_neither (is_a class.Distinct) (is_a class.All) refl refl (sym c.if-next_is.ensures) (sym c.if-next_is-2.ensures)))
