use Rattle.std.proofs.Common.{sym, ◌∙◌, arith, Ok, Err}
use Rattle.ledger_model.specs.Grammar.{name_field, IsName}
use Rattle.ledger_model.proofs.Fields.{text_law}
use Rattle.ledger.proofs.Resting.{rests_then}
use Rattle.ledger.proofs.Composing.{handed}
use Rattle.ledger.proofs.Comparing.{gives_front, place_front, past_ahead, past_all, same_name, other_name}
use Rattle.ledger.proofs.placing.is_taken.Goals as goal

pub returns-in_err-other-clause-compares : goal.returns-in_err-other-clause-compares
returns-in_err-other-clause-compares g c = λ file holds at some.
    let past = c.loop-index.invariant.reads file holds in
    let x = past_ahead file c.args.to at some.items c.loop-index._index c.args.name.now c.loop-index.reader.at (past.1 at some) (omega (arith, some.count_is)) in
    let n = c.in_err-other.ensures.gives file c.args.to past.0 in
    handed c.from_residual.result c.in_err-other.field-0.0 _ _ c.from_residual.ensures.1 (gives_front name_field (text_law IsName) file c.args.to _ 0 x.output.name _ x.front x.name_fits (Err c.in_err-other.field-0.0) n.1)

pub returns-in_err-take_place-clause-compares : goal.returns-in_err-take_place-clause-compares
returns-in_err-take_place-clause-compares g c = λ file holds at some.
    let past = c.loop-index.invariant.reads file holds in
    let x = past_ahead file c.args.to at some.items c.loop-index._index c.args.name.now c.loop-index.reader.at (past.1 at some) (omega (arith, some.count_is)) in
    let n = c.in_ok-other.ensures.gives file c.args.to past.0 in
    let named = gives_front name_field (text_law IsName) file c.args.to _ _ x.output.name _ x.front x.name_fits (Ok c.in_ok-other.other) n.1 in
    let p = c.in_err-take_place.ensures.takes file c.args.to n.0 in
    handed c.from_residual-in_err-take_place.result c.in_err-take_place.field-0.0 _ _ c.from_residual-in_err-take_place.ensures.1 (place_front file c.args.to _ 0 _ _ named.1 x.place_fits (Err c.in_err-take_place.field-0.0) p.1)

pub returns-then-is-clause-compares : goal.returns-then-is-clause-compares
returns-then-is-clause-compares g c = λ file holds at some.
    let past = c.loop-index.invariant.reads file holds in
    let x = past_ahead file c.args.to at some.items c.loop-index._index c.args.name.now c.loop-index.reader.at (past.1 at some) (omega (arith, some.count_is)) in
    let n = c.in_ok-other.ensures.gives file c.args.to past.0 in
    let named = gives_front name_field (text_law IsName) file c.args.to _ _ x.output.name _ x.front x.name_fits (Ok c.in_ok-other.other) n.1 in
    x.clash (sym named.0 ∙ same_name c.in_ok-other.other c.args.name.now c.is.result c.is.ensures c.if-is.true)

pub loop-index-preserved : goal.loop-index-preserved
loop-index-preserved g c =
    let inv = c.loop-index.invariant in
    record {
      rests = rests_then _ _ _ inv.rests (rests_then _ _ _ c.take_name.ensures.rests c.take_place.ensures.rests);
      later = omega (arith, inv.later, c.take_name.ensures.reason.later, c.take_place.ensures.reason.later);
      same = c.in_ok-take_place.ensures.reason.same ∙ (c.in_ok-other.ensures.reason.same ∙ inv.same);
      reads = λ file holds.
          let before = inv.reads file holds in
          let n = c.in_ok-other.ensures.gives file c.args.to before.0 in
          let p = c.in_ok-take_place.ensures.takes file c.args.to n.0 in (
            p.0,
            λ at some.
                let x = past_ahead file c.args.to at some.items c.loop-index._index c.args.name.now c.loop-index.reader.at (before.1 at some) (omega (arith, some.count_is)) in
                let named = gives_front name_field (text_law IsName) file c.args.to _ _ x.output.name _ x.front x.name_fits (Ok c.in_ok-other.other) n.1 in
                let placed = place_front file c.args.to _ _ _ _ named.1 x.place_fits (Ok c.in_ok-take_place.field-0) p.1 in
                x.goes _ placed.1 (λ same. other_name c.in_ok-other.other c.args.name.now c.is.result c.is.ensures c.if-is.false (named.0 ∙ same)),
          );
    }

pub returns-clause-compares : goal.returns-clause-compares
returns-clause-compares g c = λ file holds at some.
    let past = c.loop-index.invariant.reads file holds in
    past_all file c.args.to at some.items c.loop-index._index c.args.name.now c.loop-index.reader.at (past.1 at some) (omega (arith, some.count_is))
