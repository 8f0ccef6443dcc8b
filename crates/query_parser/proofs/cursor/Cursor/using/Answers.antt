use Rattle.std.proofs.Common.{refl}
use Rattle.std.proofs.lemmas.Result.{err_from_is_err_and}
use Rattle.grammar.specs.Forms.{Rule as r}
use Rattle.grammar.proofs.Answering.{reads_map, reads_seq, reads_ref}
use Rattle.query_parser.proofs.Stopping.{stop_map, stop_first, stop_second, stop_ref, given_ok, given_err}
use Rattle.query_parser.proofs.cursor.Cursor.using.Goals as goal

pub returns-in_err-value : goal.returns-in_err-value
returns-in_err-value c =
    let p = err_from_is_err_and c.from_residual.result c.from_residual.ensures.1 in
    rw (p.1, p.2) (given_err (stop_ref {m = r.using_rule} (stop_map (stop_first refl refl c.in_err-value.ensures.is))))

pub returns-in_err-alias : goal.returns-in_err-alias
returns-in_err-alias c =
    let p = err_from_is_err_and c.from_residual-in_err-alias.result c.from_residual-in_err-alias.ensures.1 in
    rw (p.1, p.2) (given_err (stop_ref {m = r.using_rule} (stop_map (stop_second refl c.in_ok-value.ensures.is (c.in_err-alias.ensures c.args.left).is))))

pub returns : goal.returns
returns c =
    given_ok (reads_ref {m = r.using_rule} (reads_map (reads_seq refl c.in_ok-value.ensures.is (c.in_ok-alias.ensures c.args.left).is)))
