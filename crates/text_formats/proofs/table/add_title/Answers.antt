use Rattle.std.proofs.Common.{◌≡◌, List, ℕ, Bool, true, [], ◌∷◌, ◌++◌, if◌then◌else◌, sym, ◌∙◌, refl}
use Rattle.lp_model.proofs.Results.{on_err}
use Rattle.lp_model.proofs.Buffers.{grows_front, grows_along}
use Rattle.text_formats.specs.Tables.{is_titled, row_line, rule_line}
use Rattle.text_formats.proofs.table.add_title.Goals as goal

chosen : (test : Bool) (text : List ℕ) → test ≡ true → text ≡ (if test then text else [])
chosen test text is = rw is refl

pub returns-in_err-add_row-clause-err : goal.returns-in_err-add_row-clause-err
returns-in_err-add_row-clause-err c =
    let table = c.args.title.now ∷ c.args.rows.now in
    let old = c.args.to.now in
    let new = c.add_row.new.to in
    let names = row_line table c.args.title.now in
    let rule = rule_line table c.args.title.now in
    on_err _ c.from_residual.result
    (grows_along old new _ _ (chosen (is_titled c.args.headers) (names ++ rule) (sym c.is_titled.ensures ∙ c.if-is_titled.true)) (grows_front old new names rule c.in_err-add_row.ensures.err))
