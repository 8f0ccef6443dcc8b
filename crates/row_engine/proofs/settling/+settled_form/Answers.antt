use Rattle.std.proofs.Common.{◌≡◌, ◌∙◌, IfOk, List, map, ap, sym, subst, arith}
use Rattle.std.proofs.lemmas.List.{take_all}
use Rattle.query_types.specs.declared.form.Form.{Form}
use Rattle.query_types.specs.Terms.{Maker, Term, made, maker_of, term_of, terms_of}
use Rattle.row_engine.specs.Settled.{settled, varies}
use Rattle.row_engine.proofs.SettledLemmas.{settled_fixed, settled_made}
use Rattle.row_engine.proofs.settling.+settled_form.Goals as goal

pub returns-then-not-varies : goal.returns-then-not-varies
returns-then-not-varies t c =
    subst (λ (x : Term). IfOk c.constant_of.result (λ now. term_of now ≡ x)) (sym (settled_fixed (term_of c.args.form.now) (sym c.varies.ensures ∙ c.if-not-varies.true))) c.constant_of.ensures

pub returns-in_ok-by-in-Made : goal.returns-in_ok-by-in-Made
returns-in_ok-by-in-Made t c =
    let items = c.deref-part-items.result.now in
    let kind = c.in-Made.kind in
    let by = c.in-Made.by in
    c.made.ensures
    ∙ ap (λ (m : Maker). made kind m (terms_of (map term_of c.loop-part.parts.items))) c.in_ok-by-in-Made.ensures
    ∙ ap (λ (l : List Term). made kind (maker_of by) (terms_of l)) (c.loop-part.invariant ∙ ap (λ (l : List Form). map settled (map term_of l)) (take_all c.loop-part.part-index items (omega arith) ∙ c.deref-part-items.ensures.value))
    ∙ sym (ap (λ (e : Form). settled (term_of e)) c.in-Made.is ∙ settled_made kind by c.in-Made.of (ap (λ (e : Form). varies (term_of e)) (sym c.in-Made.is) ∙ sym c.varies.ensures ∙ c.if-not-varies.false))
