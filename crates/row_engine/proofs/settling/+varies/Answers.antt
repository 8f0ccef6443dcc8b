use Rattle.std.proofs.Common.{◌∙◌, ◌+◌, ◌||◌, Bool, List, map, drop, ap, sym, arith}
use Rattle.std.proofs.lemmas.List.{drop_all}
use Rattle.query_types.specs.declared.form.Form.{Form}
use Rattle.query_types.specs.Terms.{term_of, terms_of}
use Rattle.query_types.proofs.Forms.{made_term}
use Rattle.row_engine.specs.Settled.{any_varies, varies}
use Rattle.row_engine.proofs.SettledLemmas.{varies_step}
use Rattle.row_engine.proofs.settling.+varies.Goals as goal

pub returns-then-varies : goal.returns-then-varies
returns-then-varies t c =
    let items = c.deref-part-items.result.now in
    let i = c.loop-part.part-index in
    let rest = any_varies (terms_of (map term_of (drop (i + 1) items))) in
    sym (ap (λ (e : Form). varies (term_of e)) c.in-Made.is ∙ ap varies (made_term c.in-Made.kind c.in-Made.by c.in-Made.of)
    ∙ ap (λ (l : List Form). any_varies (terms_of (map term_of l))) (sym c.deref-part-items.ensures.value)
    ∙ c.loop-part.invariant ∙ varies_step items i c.part-item.result c.loop-part-test.true c.part-item.is
    ∙ ap (λ (b : Bool). b || rest) (sym c.varies.ensures ∙ c.if-varies.true))

pub returns-after-loop-part : goal.returns-after-loop-part
returns-after-loop-part t c =
    let items = c.deref-part-items.result.now in
    sym (ap (λ (e : Form). varies (term_of e)) c.in-Made.is ∙ ap varies (made_term c.in-Made.kind c.in-Made.by c.in-Made.of)
    ∙ ap (λ (l : List Form). any_varies (terms_of (map term_of l))) (sym c.deref-part-items.ensures.value)
    ∙ c.loop-part.invariant ∙ ap (λ (l : List Form). any_varies (terms_of (map term_of l))) (drop_all c.loop-part.part-index items (omega arith)))
