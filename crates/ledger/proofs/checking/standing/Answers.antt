use Rattle.std.proofs.Common.{arith}
use Rattle.ledger.proofs.Composing.{handed, text_unsized, refused_here, refused_moved}
use Rattle.ledger.proofs.Tagged.{standing_read, standing_long, standing_refused}
use Rattle.ledger_model.specs.Numbers.{text_of}
use Rattle.ledger_model.specs.Standings.{IsStanding}
use Rattle.ledger.proofs.checking.standing.Goals as goal

pub returns-in_err-size-clause-looks : goal.returns-in_err-size-clause-looks
returns-in_err-size-clause-looks g c = λ file to can.
    let k = c.in_err-size.ensures.gives file to can in
    (k.0, handed c.from_residual.result c.in_err-size.field-0.0 _ _ c.from_residual.ensures.1 (text_unsized _ file to _ _ k.1))

pub returns-in-Ok-clause-looks : goal.returns-in-Ok-clause-looks
returns-in-Ok-clause-looks g c = λ file to can.
    let k = c.in_ok-size.ensures.gives file to can in
    let l = c.in-Ok.ensures.looks file to k.0 in
    (l.0, standing_read c.args.most file to _ _ _ _ k.1 l.1 (omega (arith, c.place.ensures, c.place-start.ensures, c.saturating_sub.ensures, c.from.ensures, c.if-saturating_sub-from.true)))

pub returns-in-Ok-2-clause-looks : goal.returns-in-Ok-2-clause-looks
returns-in-Ok-2-clause-looks g c = λ file to can.
    let k = c.in_ok-size.ensures.gives file to can in
    let l = c.in-Ok.ensures.looks file to k.0 in (
      l.0,
      refused_here (text_of (IsStanding c.args.most)) file to c.args.reader.now.at c.place-place.result c.damaged.result c.damaged.ensures c.place-place.ensures
          (standing_long c.args.most file to _ _ _ _ k.1 l.1 (λ e. omega (arith, e, c.place.ensures, c.place-start.ensures, c.saturating_sub.ensures, c.from.ensures, c.if-saturating_sub-from.false))),
    )

pub returns-in-Err-clause-looks : goal.returns-in-Err-clause-looks
returns-in-Err-clause-looks g c = λ file to can.
    let k = c.in_ok-size.ensures.gives file to can in
    let l = c.in-Err.ensures.looks file to k.0 in
    (l.0, refused_moved (text_of (IsStanding c.args.most)) file to c.args.reader.now.at c.place-place.result c.in-Err.refused c.moved.result c.moved.ensures c.place-place.ensures (standing_refused c.args.most file to _ _ _ c.in-Err.refused k.1 l.1))
