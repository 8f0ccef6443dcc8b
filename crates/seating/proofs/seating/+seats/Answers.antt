use Rattle.std.proofs.Common.{◌≡◌, ◌∙◌, List, IfOk, map, ap, sym, subst, arith}
use Rattle.std.proofs.lemmas.List.{take_all}
use Rattle.query_types.specs.Terms.{Maker, Term, made, maker_of, term_of, terms_of}
use Rattle.query_types.specs.declared.form.Form.{Form}
use Rattle.senses.specs.declared.sense.SenseForm.{SenseForm}
use Rattle.seating.specs.Gathered.{all_seated, counted_of, seated}
use Rattle.senses.specs.Senses.{sense_of, senses_of}
use Rattle.senses.proofs.Forms.{formed_sense}
use Rattle.seating.proofs.Seats.{formed_seated, seated_list}
use Rattle.seating.proofs.seating.+seats.Goals as goal

pub seat_formed-returns : goal.seat_formed-returns
seat_formed-returns t c =
    let keys = map sense_of c.args.keys.now in
    let found = map counted_of c.args.found.now in
    let of = c.args.of.now in
    let kind = c.args.kind in
    let by = c.args.by.now in
    c.made.ensures
    ∙ ap (λ (m : Maker). made kind m (terms_of (map term_of c.loop-part.parts.items))) c.in_ok-operation.ensures
    ∙ ap (λ (l : List Term). made kind (maker_of by) (terms_of l)) (c.loop-part.invariant ∙ ap (λ (l : List SenseForm). map (seated keys found) (map sense_of l)) (take_all c.loop-part.part-index of (omega arith)))
    ∙ ap (λ l. made kind (maker_of by) l) (sym (seated_list keys found (map sense_of of)))

pub seated-returns-in-None : goal.seated-returns-in-None
seated-returns-in-None t c =
    let keys = map sense_of c.args.keys.now in
    let found = map counted_of c.args.found.now in
    let sense = sense_of c.args.sense.now in
    let of = c.in-Formed.of in
    let by = maker_of c.in-Formed.by in
    let is = formed_seated keys found sense c.in-Formed.kind by (senses_of (map sense_of of.items))
    (ap (λ (f : SenseForm). sense_of f) c.in-Formed.is ∙ formed_sense c.in-Formed.kind c.in-Formed.by of)
    (sym c.first_same-in-Formed.ensures ∙ c.in-None.is) in
    subst (λ (term : Term). IfOk c.seat_formed.result (λ (form : Form). term_of form ≡ term))
    (ap (λ (l : List SenseForm). made c.in-Formed.kind by (all_seated keys found (senses_of (map sense_of l)))) c.as_slice.ensures.value ∙ sym is)
    c.seat_formed.ensures
