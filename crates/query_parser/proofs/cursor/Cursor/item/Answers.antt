use Rattle.std.proofs.Common.{refl, sym}
use Rattle.std.proofs.lemmas.Result.{err_from_is_err_and}
use Rattle.grammar.specs.declared.Class.TheVariants as class
use Rattle.grammar.specs.Classes.{is_a}
use Rattle.grammar.specs.Forms.{Rule as r}
use Rattle.grammar.proofs.Answering.{reads_map, reads_seq, reads_absent, reads_present, reads_ref}
use Rattle.query_parser.proofs.Stopping.{stop_map, stop_first, stop_second, stop_present, stop_ref, given_ok, given_err}
use Rattle.query_parser.proofs.cursor.Cursor.item.Goals as goal

pub returns-in_err-value : goal.returns-in_err-value
returns-in_err-value c =
    let p = err_from_is_err_and c.from_residual.result c.from_residual.ensures.1 in
    rw (p.1, p.2) (given_err (stop_ref {m = r.item_rule} (stop_map (stop_first refl refl c.in_err-value.ensures.is))))

pub returns-then-not-next_is : goal.returns-then-not-next_is
returns-then-not-next_is c =
    given_ok (reads_ref {m = r.item_rule} (reads_map (reads_seq refl c.in_ok-value.ensures.is (reads_absent (is_a class.As) refl refl (sym c.if-not-next_is.ensures)))))

pub returns-in_err-alias : goal.returns-in_err-alias
returns-in_err-alias c =
    let p = err_from_is_err_and c.from_residual-in_err-alias.result c.from_residual-in_err-alias.ensures.1 in
    rw (p.1, p.2) (given_err (stop_ref {m = r.item_rule} (stop_map (stop_second refl c.in_ok-value.ensures.is (stop_present (is_a class.As) refl (sym c.if-not-next_is.ensures) (c.in_err-alias.ensures c.args.left).is)))))

pub returns : goal.returns
returns c =
    given_ok (reads_ref {m = r.item_rule} (reads_map (reads_seq refl c.in_ok-value.ensures.is (reads_present (is_a class.As) refl (sym c.if-not-next_is.ensures) (c.in_ok-alias.ensures c.args.left).is))))
