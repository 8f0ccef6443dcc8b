use Rattle.std.proofs.Common.{inl, inr, arith}
use Rattle.ledger.proofs.Composing.{handed}
use Rattle.ledger.proofs.Tagged.{kept_untagged, kept_null}
use Rattle.ledger.proofs.Tagged.{kept_after_signed, kept_after_text, kept_after_stamp, kept_lost}
use Rattle.ledger.proofs.checking.value_parts.Goals as goal

pub returns-in_err-byte-clause-looks : goal.returns-in_err-byte-clause-looks
returns-in_err-byte-clause-looks g c = λ file to can.
    let k = c.in_err-byte.ensures.gives file to can in
    (k.0, handed c.from_residual.result c.in_err-byte.field-0.0 _ _ c.from_residual.ensures.1 (kept_untagged file to _ _ k.1))

pub returns-in-0-clause-looks : goal.returns-in-0-clause-looks
returns-in-0-clause-looks g c = λ file to can.
    let k = c.in_ok-byte.ensures.gives file to can in
    (k.0, kept_null file to _ _ _ (omega arith) k.1)

pub returns-in-1-clause-looks : goal.returns-in-1-clause-looks
returns-in-1-clause-looks g c = λ file to can.
    let k = c.in_ok-byte.ensures.gives file to can in
    let t = c.signed.ensures.looks file to k.0 in
    (t.0, kept_after_signed file to _ _ _ _ (inl (omega arith)) k.1 c.signed.result t.1)

pub returns-in-2-clause-looks : goal.returns-in-2-clause-looks
returns-in-2-clause-looks g c = λ file to can.
    let k = c.in_ok-byte.ensures.gives file to can in
    let t = c.signed-in-2.ensures.looks file to k.0 in
    (t.0, kept_after_signed file to _ _ _ _ (inr (omega arith)) k.1 c.signed-in-2.result t.1)

pub returns-in-3-clause-looks : goal.returns-in-3-clause-looks
returns-in-3-clause-looks g c = λ file to can.
    let k = c.in_ok-byte.ensures.gives file to can in
    let t = c.text.ensures.looks file to k.0 in
    (t.0, kept_after_text file to _ _ _ _ (omega arith) k.1 c.text.result t.1)

pub returns-in-4-clause-looks : goal.returns-in-4-clause-looks
returns-in-4-clause-looks g c = λ file to can.
    let k = c.in_ok-byte.ensures.gives file to can in
    let t = c.stamp.ensures.looks file to k.0 in
    (t.0, kept_after_stamp file to _ _ _ _ (omega arith) k.1 c.stamp.result t.1)

pub returns-in_default-clause-looks : goal.returns-in_default-clause-looks
returns-in_default-clause-looks g c = λ file to can.
    let k = c.in_ok-byte.ensures.gives file to can in
    (k.0, kept_lost file to _ _ _ c.place-place.result c.damaged.result c.damaged.ensures (omega arith) k.1)
