use Rattle.std.proofs.Common.{refl, sym}
use Rattle.std.proofs.lemmas.Result.{err_from_is_err_and}
use Rattle.grammar.specs.declared.Class.TheVariants as class
use Rattle.grammar.specs.Classes.{is_a}
use Rattle.grammar.proofs.Answering.{reads_behind, reads_absent, reads_present}
use Rattle.query_parser.proofs.Stopping.{stop_map, stop_first, stop_second, stop_present, given_ok, given_err}
use Rattle.query_parser.proofs.cursor.Cursor.usings.Goals as goal

pub returns-then-not-next_is : goal.returns-then-not-next_is
returns-then-not-next_is c =
    given_ok (reads_absent (is_a class.Using) refl refl (sym c.if-not-next_is.ensures))

pub returns-in_err-_using : goal.returns-in_err-_using
returns-in_err-_using c =
    let p = err_from_is_err_and c.from_residual.result c.from_residual.ensures.1 in
    rw (p.1, p.2) (given_err (stop_present (is_a class.Using) refl (sym c.if-not-next_is.ensures) (stop_map (stop_first refl refl (c.in_err-_using.ensures.exact c.args.left).is))))

pub returns-in_err-items : goal.returns-in_err-items
returns-in_err-items c =
    let p = err_from_is_err_and c.from_residual-in_err-items.result c.from_residual-in_err-items.ensures.1 in
    rw (p.1, p.2) (given_err (stop_present (is_a class.Using) refl (sym c.if-not-next_is.ensures) (stop_map (stop_second refl (c.in_ok-_using.ensures.exact c.args.left).is c.in_err-items.ensures.is))))

pub returns : goal.returns
returns c =
    given_ok (reads_present (is_a class.Using) refl (sym c.if-not-next_is.ensures) (reads_behind refl (c.in_ok-_using.ensures.exact c.args.left).is c.in_ok-items.ensures.is))
