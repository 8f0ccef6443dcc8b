use Rattle.std.proofs.Common.{◌∙◌, ◌||◌, Bool, List, map, ap, sym}
use Rattle.query_types.specs.Terms.{maker_of}
use Rattle.senses.specs.declared.sense.SenseForm.{SenseForm}
use Rattle.judging.specs.Judged.{all_misplaced}
use Rattle.senses.specs.Senses.{is_key, sense_of, senses_of}
use Rattle.senses.proofs.Forms.{formed_sense}
use Rattle.judging.proofs.Misplaced.{formed_misplaced}
use Rattle.judging.proofs.judging.+places.Goals as goal

pub misplaced-returns-in-Formed : goal.misplaced-returns-in-Formed
misplaced-returns-in-Formed t c =
    let keys = map sense_of c.args.keys.now in
    let free = c.args.free in
    let sense = c.args.sense.now in
    let of = c.in-Formed.of in
    c.all_misplaced.ensures
    ∙ ap (λ (b : Bool). all_misplaced keys b (senses_of (map sense_of c.as_slice.result.now))) c.is_free-in-Formed.ensures
    ∙ ap (λ (l : List SenseForm). all_misplaced keys (free || is_key keys (sense_of sense)) (senses_of (map sense_of l))) c.as_slice.ensures.value
    ∙ sym (formed_misplaced keys free (sense_of sense) c.in-Formed.kind (maker_of c.in-Formed.by) (senses_of (map sense_of of.items))
    (ap (λ (f : SenseForm). sense_of f) c.in-Formed.is ∙ formed_sense c.in-Formed.kind c.in-Formed.by of))
