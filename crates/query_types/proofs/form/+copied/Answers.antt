use Rattle.std.proofs.Common.{◌∙◌, List, map, take, ap, sym, arith}
use Rattle.std.proofs.lemmas.List.{take_all}
use Rattle.query_types.specs.declared.form.Form.{Form}
use Rattle.query_types.specs.Terms.{Term, Maker, maker_of, term_of, terms_of, made}
use Rattle.query_types.proofs.Forms.{made_term}
use Rattle.query_types.proofs.form.+copied.Goals as goal

pub returns-in_ok-operation-in-Made : goal.returns-in_ok-operation-in-Made
returns-in_ok-operation-in-Made t c =
    let items = c.deref-part-items.result.now in
    let kind = c.in-Made.kind in
    let by = c.in-Made.by in
    c.made.ensures
    ∙ ap (λ (m : Maker). made kind m (terms_of (map term_of c.loop-part.parts.items))) c.in_ok-operation-in-Made.ensures
    ∙ ap (λ (l : List Term). made kind (maker_of by) (terms_of l)) (c.loop-part.invariant ∙ ap (λ (l : List Form). map term_of l) (take_all c.loop-part.part-index items (omega arith) ∙ c.deref-part-items.ensures.value))
    ∙ sym (ap (λ (e : Form). term_of e) c.in-Made.is ∙ made_term kind by c.in-Made.of)
