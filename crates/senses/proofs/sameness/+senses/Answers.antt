use Rattle.std.proofs.Common.{◌∙◌, ◌&&◌, Bool, List, map, ap, ap₂, sym, arith}
use Rattle.std.proofs.lemmas.List.{drop_all}
use Rattle.lp_values.specs.declared.kind.Kind.TheVariants.{Any}
use Rattle.query_types.specs.Terms.{maker_of}
use Rattle.senses.specs.declared.sense.SenseForm.{SenseForm}
use Rattle.senses.specs.Senses.{formed, same_sense, same_senses, sense_of, senses_of}
use Rattle.senses.proofs.Forms.{formed_sense, same_end}
use Rattle.senses.proofs.sameness.+senses.Goals as goal

pub are_same_senses-returns : goal.are_same_senses-returns
are_same_senses-returns t c =
    let items = c.args.parts.now in
    let rest = c.loop-part.rest.now in
    c.is_empty.ensures ∙ sym (same_end rest)
    ∙ sym (ap (λ (l : List SenseForm). same_senses (senses_of (map sense_of l)) (senses_of (map sense_of rest))) (drop_all c.loop-part.part-index items (omega arith)))
    ∙ sym c.loop-part.invariant

pub is_formed-returns-then-is_same_operation : goal.is_formed-returns-then-is_same_operation
is_formed-returns-then-is_same_operation t c =
    let by = c.args.by.now in
    let of = c.args.of.now in
    let others = c.in-Formed.others in
    c.are_same_senses.ensures
    ∙ ap₂ (λ (l m : List SenseForm). same_senses (senses_of (map sense_of l)) (senses_of (map sense_of m))) c.as_slice.ensures.value c.as_slice-then-is_same_operation.ensures.value
    ∙ sym (ap (λ (b : Bool). b && same_senses (senses_of (map sense_of of.items)) (senses_of (map sense_of others.items))) (sym c.is_same_operation.ensures ∙ c.if-is_same_operation.true))
    ∙ sym (ap (λ (f : SenseForm). same_sense (formed Any (maker_of by) (senses_of (map sense_of of.items))) (sense_of f)) c.in-Formed.is
    ∙ ap (same_sense (formed Any (maker_of by) (senses_of (map sense_of of.items)))) (formed_sense c.in-Formed.kind c.in-Formed.other_by others))

pub is_same_sense-returns-in-Formed : goal.is_same_sense-returns-in-Formed
is_same_sense-returns-in-Formed t c =
    c.is_formed.ensures
    ∙ sym (ap (λ (f : SenseForm). same_sense (sense_of f) (sense_of c.args.other.now)) c.in-Formed.is
    ∙ ap (λ s. same_sense s (sense_of c.args.other.now)) (formed_sense c.in-Formed.kind c.in-Formed.by c.in-Formed.of))
