use Rattle.std.proofs.Common.{refl, sym}
use Rattle.std.proofs.lemmas.Result.{err_from_is_err_and}
use Rattle.grammar.specs.declared.Class.TheVariants as class
use Rattle.grammar.specs.Classes.{is_a}
use Rattle.grammar.specs.Rules.{is_integer}
use Rattle.grammar.proofs.Answering.{reads_map, reads_left, reads_right}
use Rattle.query_parser.proofs.Stopping.{stop_map, stop_left, stop_right, given_ok, given_err}
use Rattle.query_parser.proofs.cursor.Cursor.literal.Goals as goal

pub returns-in_err-token : goal.returns-in_err-token
returns-in_err-token c n =
    let p = err_from_is_err_and c.from_residual.result c.from_residual.ensures.1 in
    rw (p.1, p.2) (given_err (stop_left is_integer refl refl (sym c.if-next_in.ensures) (stop_map (c.in_err-token.ensures.exact n).is)))

pub returns-then-next_in : goal.returns-then-next_in
returns-then-next_in c n =
    given_ok (rw c.integer.ensures (reads_left is_integer refl refl (sym c.if-next_in.ensures) (reads_map (c.in_ok-token.ensures.exact n).is)))

pub returns-in_err-token-2 : goal.returns-in_err-token-2
returns-in_err-token-2 c n =
    let p = err_from_is_err_and c.from_residual-in_err-token-2.result c.from_residual-in_err-token-2.ensures.1 in
    rw (p.1, p.2) (given_err (stop_right is_integer refl refl (sym c.if-next_in.ensures) (stop_left (is_a class.Real) refl refl (sym c.if-next_is.ensures) (stop_map (c.in_err-token-2.ensures.exact n).is))))

pub returns-then-next_is : goal.returns-then-next_is
returns-then-next_is c n =
    given_ok (rw c.real.ensures (reads_right is_integer refl refl (sym c.if-next_in.ensures) (reads_left (is_a class.Real) refl refl (sym c.if-next_is.ensures) (reads_map (c.in_ok-token-2.ensures.exact n).is))))

pub returns-in_err-token-3 : goal.returns-in_err-token-3
returns-in_err-token-3 c n =
    let p = err_from_is_err_and c.from_residual-in_err-token-3.result c.from_residual-in_err-token-3.ensures.1 in
    rw (p.1, p.2) (given_err (stop_right is_integer refl refl (sym c.if-next_in.ensures) (stop_right (is_a class.Real) refl refl (sym c.if-next_is.ensures) (stop_left (is_a class.Text) refl refl (sym c.if-next_is-2.ensures) (stop_map (c.in_err-token-3.ensures.exact n).is)))))

pub returns-then-next_is-2 : goal.returns-then-next_is-2
returns-then-next_is-2 c n =
    given_ok (rw c.in_ok-value.ensures (reads_right is_integer refl refl (sym c.if-next_in.ensures) (reads_right (is_a class.Real) refl refl (sym c.if-next_is.ensures) (reads_left (is_a class.Text) refl refl (sym c.if-next_is-2.ensures) (reads_map (c.in_ok-token-3.ensures.exact n).is)))))

pub returns-in_err-token-4 : goal.returns-in_err-token-4
returns-in_err-token-4 c n =
    let p = err_from_is_err_and c.from_residual-in_err-token-4.result c.from_residual-in_err-token-4.ensures.1 in
    rw (p.1, p.2) (given_err (stop_right is_integer refl refl (sym c.if-next_in.ensures) (stop_right (is_a class.Real) refl refl (sym c.if-next_is.ensures) (stop_right (is_a class.Text) refl refl (sym c.if-next_is-2.ensures) (stop_map (c.in_err-token-4.ensures.exact n).is)))))

pub returns : goal.returns
returns c n =
    given_ok (reads_right is_integer refl refl (sym c.if-next_in.ensures) (reads_right (is_a class.Real) refl refl (sym c.if-next_is.ensures) (reads_right (is_a class.Text) refl refl (sym c.if-next_is-2.ensures) (reads_map (c.in_ok-token-4.ensures.exact n).is))))
