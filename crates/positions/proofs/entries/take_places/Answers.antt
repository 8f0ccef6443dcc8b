use Rattle.std.proofs.Common.{[], ◌∷◌, ◌++◌, refl, ◌∙◌, arith, flat_map}
use Rattle.ledger_model.specs.Grammar.{span_layout}
use Rattle.ledger.proofs.Resting.{rests_then}
use Rattle.ledger.proofs.Composing.{handed}
use Rattle.positions.specs.Faults.{IsNoFault}
use Rattle.positions.proofs.Taking.{next_span, none_left}
use Rattle.positions.proofs.entries.take_places.Goals as goal

pub loop-index-preserved : goal.loop-index-preserved
loop-index-preserved g c = let inv = c.loop-index.invariant in record {
  rests = rests_then _ _ _ inv.rests c.take_place.ensures.rests;
  later = omega (arith, inv.later, c.take_place.ensures.reason.later);
  same = c.in_ok-take_place.ensures.reason.same ∙ inv.same;
  left = λ to all more first.
      let n = next_span (g.D.Disk.state c.loop-index.disk) c.args.ledger.now to c.loop-index.reader _ more all c.loop-index.places.entries (inv.left to all more first) (omega arith) in
      let k = c.in_ok-take_place.ensures.takes to n.past n.span (flat_map span_layout.spell n.rest ++ more) n.fits n.remembers n.stands in
      record { past = n.past ++ n.span ∷ []; next = n.rest; parts = n.parts; count_is = omega (arith, n.count_is); fit = n.others; stands = k.1; remembers = k.0 };
}

pub returns-in_err-take_place-clause-takes : goal.returns-in_err-take_place-clause-takes
returns-in_err-take_place-clause-takes g c = λ to before spans more is fit remembers stands.
    let left = c.loop-index.invariant.left to (before ++ spans) more (record { past = before; next = spans; parts = refl; count_is = is; fit = fit; stands = stands; remembers = remembers }) in
    let n = next_span (g.D.Disk.state c.loop-index.disk) c.args.ledger.now to c.loop-index.reader _ more (before ++ spans) c.loop-index.places.entries left (omega arith) in
    handed c.from_residual.result c.in_err-take_place.field-0.0 _ IsNoFault c.from_residual.ensures.1 (c.in_err-take_place.ensures.takes to n.past n.span (flat_map span_layout.spell n.rest ++ more) n.fits n.remembers n.stands)

pub returns-clause-takes : goal.returns-clause-takes
returns-clause-takes g c = λ to before spans more is fit remembers stands.
    let left = c.loop-index.invariant.left to (before ++ spans) more (record { past = before; next = spans; parts = refl; count_is = is; fit = fit; stands = stands; remembers = remembers }) in
    none_left (g.D.Disk.state c.loop-index.disk) c.args.ledger.now to c.loop-index.reader _ more (before ++ spans) c.loop-index.places.entries left (omega arith)
