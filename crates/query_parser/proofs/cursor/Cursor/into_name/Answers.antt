use Rattle.std.proofs.Common.{refl, sym}
use Rattle.std.proofs.lemmas.Result.{err_from_is_err_and}
use Rattle.grammar.specs.declared.Class.TheVariants as class
use Rattle.grammar.specs.Classes.{is_a}
use Rattle.grammar.proofs.Answering.{reads_behind, reads_absent, reads_present}
use Rattle.query_parser.proofs.Stopping.{stop_map, stop_first, stop_second, stop_present, given_ok, given_err}
use Rattle.query_parser.proofs.cursor.Cursor.into_name.Goals as goal

pub returns-then-not-next_is : goal.returns-then-not-next_is
returns-then-not-next_is c n =
    given_ok (reads_absent (is_a class.Into) refl refl (sym c.if-not-next_is.ensures))

pub returns-in_err-_into : goal.returns-in_err-_into
returns-in_err-_into c n =
    let p = err_from_is_err_and c.from_residual.result c.from_residual.ensures.1 in
    rw (p.1, p.2) (given_err (stop_present (is_a class.Into) refl (sym c.if-not-next_is.ensures) (stop_map (stop_first refl refl (c.in_err-_into.ensures.exact n).is))))

pub returns-in_err-name : goal.returns-in_err-name
returns-in_err-name c n =
    let p = err_from_is_err_and c.from_residual-in_err-name.result c.from_residual-in_err-name.ensures.1 in
    rw (p.1, p.2) (given_err (stop_present (is_a class.Into) refl (sym c.if-not-next_is.ensures) (stop_map (stop_second refl (c.in_ok-_into.ensures.exact n).is (c.in_err-name.ensures n).is))))

pub returns : goal.returns
returns c n =
    given_ok (reads_present (is_a class.Into) refl (sym c.if-not-next_is.ensures) (reads_behind refl (c.in_ok-_into.ensures.exact n).is (c.in_ok-name.ensures n).is))
