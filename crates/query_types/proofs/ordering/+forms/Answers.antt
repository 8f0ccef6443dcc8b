use Rattle.std.proofs.Common.{◌∙◌, ◌&&◌, Bool, List, map, ap, ap₂, sym, arith}
use Rattle.std.proofs.lemmas.List.{drop_all}
use Rattle.query_types.specs.declared.form.Form.{Form}
use Rattle.query_types.specs.Orders.{same_term, same_terms}
use Rattle.query_types.specs.Terms.{term_of, terms_of}
use Rattle.query_types.proofs.Forms.{made_term}
use Rattle.query_types.proofs.Placing.{same_end}
use Rattle.query_types.proofs.ordering.+forms.Goals as goal

pub are_same-returns : goal.are_same-returns
are_same-returns t c =
    let items = c.args.parts.now in
    let rest = c.loop-part.rest.now in
    c.is_empty.ensures ∙ sym (same_end rest)
    ∙ sym (ap (λ (l : List Form). same_terms (terms_of (map term_of l)) (terms_of (map term_of rest))) (drop_all c.loop-part.part-index items (omega arith)))
    ∙ sym c.loop-part.invariant

pub is_same-returns-then-is_same_operation : goal.is_same-returns-then-is_same_operation
is_same-returns-then-is_same_operation t c =
    let of = c.in-Made.of in
    let others = c.in-Made-other.others in
    c.are_same.ensures
    ∙ ap₂ (λ (l m : List Form). same_terms (terms_of (map term_of l)) (terms_of (map term_of m))) c.as_slice.ensures.value c.as_slice-then-is_same_operation.ensures.value
    ∙ sym (ap (λ (b : Bool). b && same_terms (terms_of (map term_of of.items)) (terms_of (map term_of others.items))) (sym c.is_same_operation.ensures ∙ c.if-is_same_operation.true))
    ∙ sym (ap₂ (λ (f g : Form). same_term (term_of f) (term_of g)) c.in-Made.is c.in-Made-other.is ∙ ap₂ same_term (made_term c.in-Made.kind c.in-Made.by of) (made_term c.in-Made-other.kind c.in-Made-other.other_by others))
