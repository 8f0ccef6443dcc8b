use Rattle.std.proofs.Common.{refl, sym}
use Rattle.std.proofs.lemmas.Result.{err_from_is_err_and}
use Rattle.grammar.specs.declared.Class.TheVariants as class
use Rattle.grammar.specs.Classes.{is_a}
use Rattle.grammar.proofs.Answering.{reads_map, reads_seq, reads_absent, reads_present}
use Rattle.query_parser.proofs.Stopping.{stop_map, stop_first, stop_second, stop_present, given_ok, given_err}
use Rattle.query_parser.proofs.cursor.Cursor.rollup.Goals as goal

pub returns-then-not-next_is : goal.returns-then-not-next_is
returns-then-not-next_is c n =
    given_ok (reads_map (reads_absent (is_a class.With) refl refl (sym c.if-not-next_is.ensures)))

pub returns-in_err-_with : goal.returns-in_err-_with
returns-in_err-_with c n =
    let p = err_from_is_err_and c.from_residual.result c.from_residual.ensures.1 in
    rw (p.1, p.2) (given_err (stop_map (stop_present (is_a class.With) refl (sym c.if-not-next_is.ensures) (stop_first refl refl (c.in_err-_with.ensures.exact n).is))))

pub returns-in_err-_rollup : goal.returns-in_err-_rollup
returns-in_err-_rollup c n =
    let p = err_from_is_err_and c.from_residual-in_err-_rollup.result c.from_residual-in_err-_rollup.ensures.1 in
    rw (p.1, p.2) (given_err (stop_map (stop_present (is_a class.With) refl (sym c.if-not-next_is.ensures) (stop_second refl (c.in_ok-_with.ensures.exact n).is (c.in_err-_rollup.ensures.exact n).is))))

pub returns : goal.returns
returns c n =
    given_ok (reads_map (reads_present (is_a class.With) refl (sym c.if-not-next_is.ensures) (reads_seq refl (c.in_ok-_with.ensures.exact n).is (c.in_ok-_rollup.ensures.exact n).is)))
