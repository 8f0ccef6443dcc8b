use Rattle.std.proofs.Common.{Some, refl, sym, ap}
use Rattle.std.proofs.lemmas.Result.{err_from_is_err_and}
use Rattle.grammar.specs.declared.Class.TheVariants as class
use Rattle.grammar.specs.Classes.{is_a}
use Rattle.grammar.proofs.Answering.{reads_map, reads_behind, reads_absent, reads_present}
use Rattle.query_parser.proofs.Stopping.{stop_map, stop_first, stop_second, stop_present, given_ok, given_err, given_as}
use Rattle.query_parser.proofs.cursor.Cursor.top.Goals as goal

pub returns-then-not-next_is : goal.returns-then-not-next_is
returns-then-not-next_is c n =
    given_ok (reads_absent (is_a class.Top) refl refl (sym c.if-not-next_is.ensures))

pub returns-in_err-_top : goal.returns-in_err-_top
returns-in_err-_top c n =
    let p = err_from_is_err_and c.from_residual.result c.from_residual.ensures.1 in
    rw (p.1, p.2) (given_err (stop_present (is_a class.Top) refl (sym c.if-not-next_is.ensures) (stop_map (stop_first refl refl (c.in_err-_top.ensures.exact n).is))))

pub returns-in_err-token : goal.returns-in_err-token
returns-in_err-token c n =
    let p = err_from_is_err_and c.from_residual-in_err-token.result c.from_residual-in_err-token.ensures.1 in
    rw (p.1, p.2) (given_err (stop_present (is_a class.Top) refl (sym c.if-not-next_is.ensures) (stop_map (stop_second refl (c.in_ok-_top.ensures.exact n).is (stop_map (c.in_err-token.ensures.exact n).is)))))

pub returns : goal.returns
returns c n =
    given_as (ap (λ k. Some k) c.count_of-number.ensures) (reads_present (is_a class.Top) refl (sym c.if-not-next_is.ensures) (reads_behind refl (c.in_ok-_top.ensures.exact n).is (reads_map (c.in_ok-token.ensures.exact n).is)))
