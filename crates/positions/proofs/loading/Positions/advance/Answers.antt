use Rattle.std.proofs.Common.{List, [], sym, ◌∙◌, ap, map, subst, Option, ℕ}
use Rattle.std.specs.List.{AllZip}
use Rattle.ledger.specs.declared.entry.EntrySpan.{EntrySpan}
use Rattle.ledger.specs.Written.{span_of, entry_of}
use Rattle.run_model.specs.Kept.{spans_of}
use Rattle.positions.specs.Places.{Keeps, Kept, kept_of}
use Rattle.positions.specs.Advances.{HaveRoom, IsLeftBy, kept_with}
use Rattle.positions.proofs.Lasts.{keeps_more}
use Rattle.positions.proofs.EntryFields.{fields}
use Rattle.positions.proofs.Leaving.{lefts_room, remembers_same, first_with}
use Rattle.positions.proofs.loading.Positions.advance.Goals as goal

pub replace_all-requires : goal.replace_all-requires
replace_all-requires c =
    let same = c.as_slice-2.ensures ∙ sym c.as_slice.ensures in
    lefts_room (map span_of c.as_slice.result.now) c.in_ok-lefts.lefts.items c.set_all_aside.new.places.entries c.in_ok-lefts.ensures (subst (λ (l : List EntrySpan). HaveRoom c.set_all_aside.new.places.entries (map span_of l)) same c.in_ok-set_all_aside.ensures.room)

pub returns-clause-ok : goal.returns-clause-ok
returns-clause-ok c = λ form entries keeps.
    let entry = entry_of c.args.entry.now in
    let old = c.self.inside in
    let kept : Keeps entries (kept_of old.input old.places.entries) = subst (λ (k : Kept). Keeps entries k) (sym c.self.view_is) keeps in
    let zip = subst (λ (l : List EntrySpan). AllZip IsLeftBy (map span_of l) c.in_ok-lefts.lefts.items) c.as_slice.ensures c.in_ok-lefts.ensures in
    let places = c.replace_all.ensures (spans_of entries) entry.spans zip (fields entry [] form).spans (remembers_same (spans_of entries) old.places.entries c.set_all_aside.new.places.entries c.set_all_aside.ensures.same kept.places) in
    let input = c.keep_input.ensures ∙ ap (λ (i : Option (List ℕ)). kept_with i old.input) c.in_ok-input.ensures ∙ first_with old.input entry.input in
    keeps_more entries entry old.input c.keep_input.new.kept old.places.entries c.replace_all.new.places.entries kept input places
