use Rattle.std.proofs.Common.{List, ℕ, [], ◌∷◌, ◌++◌, flat_map, if◌then◌else◌}
use Rattle.lp_model.proofs.Results.{on_err, on_err_map}
use Rattle.lp_model.proofs.Buffers.{grows_front, grows_later}
use Rattle.text_formats.specs.Tables.{is_titled, row_line, rule_line, block_text}
use Rattle.text_formats.proofs.Stopping.{behind, on_ok_map}
use Rattle.text_formats.proofs.table.add_block.Goals as goal

pub returns-in_err-add_title-clause-err : goal.returns-in_err-add_title-clause-err
unfolding block_text
returns-in_err-add_title-clause-err c =
    let title = c.args.title.now in
    let table = title ∷ c.args.rows.now in
    let head : List ℕ = if is_titled c.args.headers then row_line table title ++ rule_line table title else [] in
    on_err _ c.from_residual-in_err-add_title.result (grows_front c.args.to.now c.add_title.new.to head (flat_map (row_line table) c.args.rows.now) c.in_err-add_title.ensures.err)

pub returns-clause-ok : goal.returns-clause-ok
unfolding block_text
returns-clause-ok c =
    let title = c.args.title.now in
    let table = title ∷ c.args.rows.now in
    let head : List ℕ = if is_titled c.args.headers then row_line table title ++ rule_line table title else [] in
    on_ok_map _ _ c.add_rows.result (behind c.args.to.now c.add_title.new.to c.add_rows.new.to head (flat_map (row_line table) c.args.rows.now) c.in_ok-add_title.ensures.ok) c.add_rows.ensures.ok

pub returns-clause-err : goal.returns-clause-err
unfolding block_text
returns-clause-err c =
    let title = c.args.title.now in
    let table = title ∷ c.args.rows.now in
    let head : List ℕ = if is_titled c.args.headers then row_line table title ++ rule_line table title else [] in
    on_err_map _ _ c.add_rows.result (grows_later c.args.to.now c.add_title.new.to c.add_rows.new.to head (flat_map (row_line table) c.args.rows.now) c.in_ok-add_title.ensures.ok) c.add_rows.ensures.err
