use Rattle.std.proofs.Common.{◌++◌, ◌∷◌, [], flat_map, sym, ap, ◌∙◌, append_assoc}
use Rattle.lp_model.specs.Csv.{doubled}
use Rattle.lp_model.proofs.Results.{on_err}
use Rattle.lp_model.proofs.Buffers.{grows_none, grows_front, grows_later, grows_along}
use Rattle.output_formats.proofs.Stopping.{quoted_field}
use Rattle.output_formats.proofs.csv.add_field.Goals as goal

pub returns-in_err-add_doubled-clause-err : goal.returns-in_err-add_doubled-clause-err
returns-in_err-add_doubled-clause-err c =
    let old = c.args.to.now in
    let new = c.add_doubled.new.to in
    let field = flat_map doubled c.args.field.now in
    on_err _ c.from_residual-in_err-add_doubled.result
    (grows_along old new _ _ (sym (quoted_field c.args.only c.args.field.now (sym c.is_quoted.ensures ∙ c.if-is_quoted.true)))
    (grows_front old new (34 ∷ [] ++ field) (34 ∷ []) (grows_later old c.push.new.self new (34 ∷ []) field c.in_ok-push.ensures.ok c.in_err-add_doubled.ensures.err)))

pub returns-in_err-push-2-clause-err : goal.returns-in_err-push-2-clause-err
returns-in_err-push-2-clause-err c =
    let old = c.args.to.now in
    let new = c.push-then-is_quoted.new.self in
    let field = flat_map doubled c.args.field.now in
    let both = c.in_ok-add_doubled.ensures.ok ∙ (ap (λ t. t ++ field) c.in_ok-push.ensures.ok ∙ append_assoc old (34 ∷ []) field) in
    on_err _ c.from_residual-in_err-push-2.result
    (grows_along old new _ _ (sym (quoted_field c.args.only c.args.field.now (sym c.is_quoted.ensures ∙ c.if-is_quoted.true)))
    (grows_later old c.add_doubled.new.to new (34 ∷ [] ++ field) (34 ∷ []) both (grows_none c.add_doubled.new.to new (34 ∷ []) c.in_err-push-2.ensures.err)))
