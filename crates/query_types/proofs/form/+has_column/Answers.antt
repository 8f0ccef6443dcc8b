use Rattle.std.proofs.Common.{◌∙◌, ◌+◌, ◌||◌, Bool, List, map, drop, ap, sym, arith}
use Rattle.std.proofs.lemmas.List.{drop_all}
use Rattle.query_types.specs.declared.form.Form.{Form}
use Rattle.query_types.specs.Terms.{term_of, terms_of, has_column, have_column}
use Rattle.query_types.proofs.Forms.{made_term, column_step}
use Rattle.query_types.proofs.form.+has_column.Goals as goal

pub returns-then-has_column : goal.returns-then-has_column
returns-then-has_column t c =
    let k = c.args.index in
    let items = c.deref-part-items.result.now in
    let i = c.loop-part.part-index in
    let rest = have_column k (terms_of (map term_of (drop (i + 1) items))) in
    sym (ap (λ (e : Form). has_column k (term_of e)) c.in-Made.is ∙ ap (has_column k) (made_term c.in-Made.kind c.in-Made.by c.in-Made.of)
    ∙ ap (λ (l : List Form). have_column k (terms_of (map term_of l))) (sym c.deref-part-items.ensures.value)
    ∙ c.loop-part.invariant ∙ column_step k items i c.part-item.result c.loop-part-test.true c.part-item.is
    ∙ ap (λ (b : Bool). b || rest) (sym c.has_column.ensures ∙ c.if-has_column.true))

pub returns-after-loop-part : goal.returns-after-loop-part
returns-after-loop-part t c =
    let k = c.args.index in
    let items = c.deref-part-items.result.now in
    sym (ap (λ (e : Form). has_column k (term_of e)) c.in-Made.is ∙ ap (has_column k) (made_term c.in-Made.kind c.in-Made.by c.in-Made.of)
    ∙ ap (λ (l : List Form). have_column k (terms_of (map term_of l))) (sym c.deref-part-items.ensures.value)
    ∙ c.loop-part.invariant ∙ ap (λ (l : List Form). have_column k (terms_of (map term_of l))) (drop_all c.loop-part.part-index items (omega arith)))
