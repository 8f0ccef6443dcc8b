use Rattle.std.proofs.Common.{◌≡◌, ◌∙◌, List, OnOk, map, ap, sym, subst}
use Rattle.senses.specs.declared.sense.SenseForm.{SenseForm}
use Rattle.seating.specs.Gathered.{Counted, counted_of, all_gathered, gathered}
use Rattle.senses.specs.Senses.{sense_of, senses_of}
use Rattle.senses.proofs.Forms.{formed_sense}
use Rattle.seating.proofs.gathering.+gathered.Goals as goal

pub gather-returns-in-Formed : goal.gather-returns-in-Formed
gather-returns-in-Formed t c =
    let found = map counted_of c.args.found.now.items in
    subst (λ (l : List Counted). OnOk c.gather_all.result (map counted_of c.gather_all.new.found.items ≡ l))
    (ap (λ (l : List SenseForm). all_gathered found (senses_of (map sense_of l))) c.as_slice.ensures.value
    ∙ sym (ap (λ (f : SenseForm). gathered found (sense_of f)) c.in-Formed.is ∙ ap (gathered found) (formed_sense c.in-Formed.kind c.in-Formed.by c.in-Formed.of)))
    c.gather_all.ensures
