use Rattle.std.proofs.Common.{map, Some, refl, sym, ap}
use Rattle.std.proofs.lemmas.Result.{err_from_is_err_and}
use Rattle.grammar.specs.declared.Class.TheVariants as class
use Rattle.grammar.specs.Classes.{is_a}
use Rattle.query_tree.specs.Views.{item_of}
use Rattle.grammar.proofs.Answering.{reads_map, reads_left, reads_right}
use Rattle.query_parser.proofs.Stopping.{stop_map, stop_left, stop_right, given_ok, given_err, given_as}
use Rattle.query_parser.proofs.cursor.Cursor.list.Goals as goal

pub returns-in_err-star : goal.returns-in_err-star
returns-in_err-star c =
    let p = err_from_is_err_and c.from_residual.result c.from_residual.ensures.1 in
    rw (p.1, p.2) (given_err (stop_left (is_a class.Star) refl refl (sym c.if-next_is.ensures) (stop_map (c.in_err-star.ensures.exact c.args.left).is)))

pub returns-then-next_is : goal.returns-then-next_is
returns-then-next_is c =
    given_as (ap (λ is. (Some c.in_ok-star.star.now.at, map item_of is)) c.new-items.ensures) (reads_left (is_a class.Star) refl refl (sym c.if-next_is.ensures) (reads_map (c.in_ok-star.ensures.exact c.args.left).is))

pub returns-in_err-items : goal.returns-in_err-items
returns-in_err-items c =
    let p = err_from_is_err_and c.from_residual-in_err-items.result c.from_residual-in_err-items.ensures.1 in
    rw (p.1, p.2) (given_err (stop_right (is_a class.Star) refl refl (sym c.if-next_is.ensures) (stop_map c.in_err-items.ensures.is)))

pub returns : goal.returns
returns c =
    given_ok (reads_right (is_a class.Star) refl refl (sym c.if-next_is.ensures) (reads_map c.in_ok-items.ensures.is))
