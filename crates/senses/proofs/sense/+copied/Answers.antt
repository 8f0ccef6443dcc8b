use Rattle.std.proofs.Common.{◌∙◌, List, map, ap, sym, arith}
use Rattle.std.proofs.lemmas.List.{take_all}
use Rattle.senses.specs.declared.sense.SenseForm.{SenseForm}
use Rattle.query_types.specs.Terms.{Maker, maker_of}
use Rattle.senses.specs.Senses.{Sense, formed, sense_of, senses_of}
use Rattle.senses.proofs.Forms.{formed_sense}
use Rattle.senses.proofs.sense.+copied.Goals as goal

pub returns-in_ok-operation-in-Formed : goal.returns-in_ok-operation-in-Formed
returns-in_ok-operation-in-Formed t c =
    let items = c.deref-part-items.result.now in
    let kind = c.in-Formed.kind in
    let by = c.in-Formed.by in
    c.formed.ensures
    ∙ ap (λ (m : Maker). formed kind m (senses_of (map sense_of c.loop-part.parts.items))) c.in_ok-operation-in-Formed.ensures
    ∙ ap (λ (l : List Sense). formed kind (maker_of by) (senses_of l)) (c.loop-part.invariant ∙ ap (λ (l : List SenseForm). map sense_of l) (take_all c.loop-part.part-index items (omega arith) ∙ c.deref-part-items.ensures.value))
    ∙ sym (ap (λ (e : SenseForm). sense_of e) c.in-Formed.is ∙ formed_sense kind by c.in-Formed.of)
